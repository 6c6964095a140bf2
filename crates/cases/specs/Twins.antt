-- The case of twins, beside the table: on 5 nodes the plain way of {0,4} has four links, its seam way one.
use Rattle.std.specs.Prelude.{◌≡◌, List, [], ◌∷◌, map}
use Rattle.ring.specs.declared.fates.Fate.{Fate}
use Rattle.ring.specs.declared.fates.Fate.TheVariants.{Served}
use Rattle.ring.specs.declared.ways.Way.TheVariants.{Plain, Seam}
use Rattle.ring.specs.Fates.{fate_number}
use Rattle.planner.specs.declared.answers.Part.TheVariants as part
use Rattle.cases.specs.Table.{line2, Plans}

-- the lower-numbered request goes by the seam, the other plain
abbrev pub twin_plan : List Fate
twin_plan = Served Seam 0 ∷ Served Plain 0 ∷ []

-- n 5, w 1: "{0,4} twice: pair part, numbers 2 and 1; ceiling 2"
pub record TwinCase : Type 0 where
  pub plans : Plans 5 1 (0 ∷ 4 ∷ 0 ∷ 4 ∷ []) (line2 1 1 2 part.Pair 2) twin_plan
  pub numbers : map fate_number twin_plan ≡ 2 ∷ 1 ∷ []

-- Fates and their numbers.
use Rattle.std.specs.Prelude.{ℕ, ◌+◌, ◌*◌, ◌-◌, ◌/◌, ◌%◌, Bool, true, false, eqb}
use Rattle.ring.specs.declared.ways.Way.{Way}
use Rattle.ring.specs.declared.ways.Way.TheVariants.{Plain, Seam}
use Rattle.ring.specs.declared.fates.Fate.{Fate}
use Rattle.ring.specs.declared.fates.Fate.TheVariants.{Blocked, Served}

-- "0 (plain) or 1 (seam)"
abbrev pub way_number : Way → ℕ
way_number Plain = 0
way_number Seam = 1

-- "As a 16-bit number: 0 blocked, 1+2c plain in colour c, 2+2c seam"
unfoldable pub fate_number : Fate → ℕ
fate_number Blocked = 0
fate_number (Served Plain c) = 2 * c + 1
fate_number (Served Seam c) = 2 * c + 2

-- one fate if the test holds, else the other
abbrev pub pick_fate : Bool → Fate → Fate → Fate
pick_fate true f g = f
pick_fate false f g = g

-- the fate that a number stands for
unfoldable pub fate_of : ℕ → Fate
fate_of k = pick_fate (eqb k 0) Blocked (pick_fate (eqb (k % 2) 1) (Served Plain (k / 2)) (Served Seam (k / 2 - 1)))

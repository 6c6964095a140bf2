-- The lengths of words with numbers.
use Prim.Native.Nat.{ℕ, ◌+◌, ◌≤◌}
use mathlib.Core.List.{List}
use native.Mathlib.Omega.{arith}
use lib.ListN.{length, length-append}
use Rattle.ring.specs.declared.ways.Way.{Way}
use Rattle.ring.specs.declared.ways.Way.TheVariants.{Plain, Seam}
use Rattle.texts.specs.Layout.{labelled, way_ending}
use Rattle.texts.proofs.DecimalLaws.{decimal_short}

-- a number of at most 5 digits follows the word
pub labelled_short : (word : List ℕ) (n : ℕ) → length (labelled word n) ≤ length word + 5
unfolding labelled
labelled_short word n = let short = decimal_short n in rw length-append (omega arith)

pub way_short : (way : Way) (colour : ℕ) → length (way_ending way colour) ≤ 8
way_short Plain colour = labelled_short _ colour
way_short Seam colour = labelled_short _ colour

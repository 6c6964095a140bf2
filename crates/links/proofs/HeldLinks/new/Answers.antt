use mathlib.Core.Path.{refl}
use Rattle.links.proofs.RowLaws.{same_rows}
use Rattle.links.proofs.HeldLinks.new.Goals as goal

pub invariant_of-result : goal.invariant_of-result
invariant_of-result c = same_rows _ refl

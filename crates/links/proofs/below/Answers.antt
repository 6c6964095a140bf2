use native.Mathlib.Omega.{arith}
use Rattle.links.proofs.WordLaws.{below_none, below_all, below_some}
use Rattle.links.proofs.below.Goals as goal

pub returns-then-t-from : goal.returns-then-t-from
returns-then-t-from c = λ i h. below_none _ _ i (omega arith)

pub returns-then-from-t : goal.returns-then-from-t
returns-then-from-t c = λ i h. below_all _ _ i h (omega arith)

pub returns : goal.returns
returns c = λ i h. below_some _ _ i h (omega arith)

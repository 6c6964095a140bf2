use native.Mathlib.Omega.{arith}
use Rattle.neighbours.proofs.NodeSetLaws.{uncrossed_start, uncrossed_turn}
use Rattle.neighbours.proofs.uncrossed.Goals as goal

pub loop-k-init : goal.loop-k-init
loop-k-init c = uncrossed_start _ _ _ _ c.told-around

pub loop-k-preserved : goal.loop-k-preserved
loop-k-preserved c = uncrossed_turn _ _ _ _ _ _ (omega arith) c.loop-k.invariant c.uncrossed_word.ensures

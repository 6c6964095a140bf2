use native.Mathlib.Omega.{arith}
use Rattle.neighbours.proofs.NodeSetLaws.{join_start, join_turn}
use Rattle.neighbours.proofs.join.Goals as goal

pub loop-k-init : goal.loop-k-init
loop-k-init c = join_start _ _ c.requires.0

pub loop-k-preserved : goal.loop-k-preserved
loop-k-preserved c = join_turn _ _ _ _ (omega arith) (omega arith) c.loop-k.invariant

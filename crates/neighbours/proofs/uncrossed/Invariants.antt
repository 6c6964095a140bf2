-- The loop's invariant: the words below k are done.
use Rattle.neighbours.specs.Internal.NodeSets.{Uncrossed}
use Rattle.neighbours.proofs.uncrossed.Given as goal

abbrev pub invariant-loop-k : goal.invariant-loop-k
invariant-loop-k l = Uncrossed l.sets l.a l.b l.k l.around

-- The loop's invariant: the words below k are done.
use Rattle.neighbours.specs.Internal.NodeSets.{Joined}
use Rattle.neighbours.proofs.join.Given as goal

abbrev pub invariant-loop-k : goal.invariant-loop-k
invariant-loop-k l = Joined l.initial.sets l.sets l.x l.k

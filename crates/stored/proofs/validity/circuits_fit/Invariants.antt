-- The loop's invariant: the circuits below the index may follow, and hold their links.
use Rattle.stored.proofs.FitLaws.{Walk}
use Rattle.stored.proofs.validity.circuits_fit.Given as goal

abbrev pub invariant-loop-circuit : goal.invariant-loop-circuit
invariant-loop-circuit l = Walk l.book l.held l.last l.circuit-index

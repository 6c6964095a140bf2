-- `top` is the greatest of the colours passed. Assumes nothing.
use Rattle.chain.specs.Internal.Walk.{Greatest}
use Rattle.chain.proofs.rule.greatest.Given as goal

abbrev pub invariant-loop-end : goal.invariant-loop-end
invariant-loop-end l = Greatest l.latest l.end-index l.a l.top

use Rattle.std.proofs.Common.{rules}
use Rattle.ring.specs.Admission.{ring_verdict, ring_answer}
use Rattle.ring.proofs.rings.Ring.new.Goals as goal

pub returns-in_err-refuse_if : goal.returns-in_err-refuse_if
unfolding ring_verdict ring_answer
returns-in_err-refuse_if c = search rules

pub returns-in_err-refuse_if-2 : goal.returns-in_err-refuse_if-2
unfolding ring_verdict ring_answer
returns-in_err-refuse_if-2 c = search rules

pub returns : goal.returns
unfolding ring_verdict ring_answer
returns c = search rules

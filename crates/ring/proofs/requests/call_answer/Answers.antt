use Rattle.std.proofs.Common.{rules}
use Rattle.ring.specs.Admission.{ring_answer, call_verdict, call_answer}
use Rattle.ring.proofs.requests.call_answer.Goals as goal

pub returns-in_err-ring : goal.returns-in_err-ring
unfolding ring_answer call_verdict call_answer
returns-in_err-ring c = search rules

pub returns-in_err-list_verdict : goal.returns-in_err-list_verdict
unfolding ring_answer call_verdict call_answer
returns-in_err-list_verdict c = search rules

pub returns-then-entries-ends : goal.returns-then-entries-ends
unfolding ring_answer call_verdict call_answer
returns-then-entries-ends c = search rules

pub returns : goal.returns
unfolding ring_answer call_verdict call_answer
returns c = search rules

use Rattle.std.proofs.Common.{rules, arith}
use Rattle.ring.specs.Admission.{list_verdict}
use Rattle.ring.proofs.AdmissionLaws.{count_limits, verdicts_turn, verdicts_ended}
use Rattle.ring.proofs.requests.list_verdict.Goals as goal

pub returns-in_err-count_verdict : goal.returns-in_err-count_verdict
unfolding list_verdict
returns-in_err-count_verdict c = search rules

pub overflow_cast-number : goal.overflow_cast-number
overflow_cast-number c = omega (arith, count_limits _ c.loop-i.invariant.1)

pub returns-in_err-ends_verdict : goal.returns-in_err-ends_verdict
unfolding list_verdict
returns-in_err-ends_verdict c = search (rules, verdicts_turn c.args.n c.loop-i.i c.args.ends.now (omega arith))

pub loop-i-preserved : goal.loop-i-preserved
loop-i-preserved c = search (rules, verdicts_turn c.args.n c.loop-i.i c.args.ends.now (omega arith))

pub returns : goal.returns
unfolding list_verdict
returns c =
    let limits = count_limits _ c.loop-i.invariant.1 in
    search (rules, verdicts_ended c.args.n c.loop-i.i c.args.ends.now (omega (arith, limits.even)))

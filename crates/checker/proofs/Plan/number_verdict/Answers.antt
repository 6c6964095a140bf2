use Rattle.std.proofs.Common.{rules}
use Rattle.checker.specs.Check.{number_verdict, number_verdicts}
use Rattle.checker.proofs.GroundLaws.{ground_turn, ground_ended}
use Rattle.checker.proofs.Plan.number_verdict.Goals as goal

pub loop-i-init : goal.loop-i-init
unfolding number_verdicts
loop-i-init c = search rules

pub returns-in_err-refuse_if : goal.returns-in_err-refuse_if
unfolding number_verdict
returns-in_err-refuse_if c =
    search (rules, ground_turn (number_verdict c.args.w c.args.self.now.numbers.now) c.loop-i.i _ c.loop-i-test.true)

pub loop-i-preserved : goal.loop-i-preserved
unfolding number_verdict
loop-i-preserved c = search (rules, ground_turn (number_verdict c.args.w c.args.self.now.numbers.now) c.loop-i.i _ c.loop-i-test.true)

pub returns : goal.returns
returns c = search (rules, ground_ended (number_verdict c.args.w c.args.self.now.numbers.now) c.loop-i.i _ c.loop-i-test.false)

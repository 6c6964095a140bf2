use Rattle.std.proofs.Common.{rules, arith}
use lib.ListN.{length}
use Rattle.ring.specs.Requests.{requests_of}
use Rattle.ring.specs.Internal.Sharing.{sharing}
use Rattle.ring.specs.Plans.{fates_of}
use Rattle.ring.proofs.RequestLaws.{requests_length}
use Rattle.checker.specs.Check.{later_verdict, pair_verdicts}
use Rattle.checker.proofs.GroundLaws.{ground_turn, ground_ended}
use Rattle.checker.proofs.Plan.pair_verdict.Goals as goal

pub loop-i-init : goal.loop-i-init
unfolding pair_verdicts
loop-i-init c = search rules

pub returns-in_err-later_verdict : goal.returns-in_err-later_verdict
returns-in_err-later_verdict c =
    let plan = c.args.self.now in
    search (
      rules,
      ground_turn (later_verdict sharing (requests_of plan.ends.now) (fates_of plan.numbers.now)) c.loop-i.i
          (length (requests_of plan.ends.now)) (omega (arith, plan.each, requests_length plan.ends.now)),
    )

pub loop-i-preserved : goal.loop-i-preserved
loop-i-preserved c =
    let plan = c.args.self.now in
    search (
      rules,
      ground_turn (later_verdict sharing (requests_of plan.ends.now) (fates_of plan.numbers.now)) c.loop-i.i
          (length (requests_of plan.ends.now)) (omega (arith, plan.each, requests_length plan.ends.now)),
    )

pub returns : goal.returns
returns c =
    let plan = c.args.self.now in
    search (
      rules,
      ground_ended (later_verdict sharing (requests_of plan.ends.now) (fates_of plan.numbers.now)) c.loop-i.i
          (length (requests_of plan.ends.now)) (omega (arith, plan.each, requests_length plan.ends.now)),
    )

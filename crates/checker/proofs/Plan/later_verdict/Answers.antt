use Rattle.std.proofs.Common.{rules, arith}
use mathlib.Core.Path.{sym}
use lib.ListN.{length}
use Rattle.ring.specs.Requests.{requests_of}
use Rattle.ring.specs.Internal.Sharing.{sharing}
use Rattle.ring.specs.Plans.{fates_of}
use Rattle.ring.proofs.RequestLaws.{requests_length}
use Rattle.checker.specs.Check.{pair_verdict, later_verdict}
use Rattle.checker.proofs.GroundLaws.{ground_turn, ground_ended}
use Rattle.checker.proofs.ConflictLaws.{later_blocked, pair_refused, pair_allowed}
use Rattle.checker.proofs.Plan.later_verdict.Goals as goal

pub returns-in_default : goal.returns-in_default
returns-in_default c =
    later_blocked _ c.args.self.now.ends.now c.args.self.now.numbers.now c.args.i (sym c.in_default.ensures)

pub loop-j-init : goal.loop-j-init
unfolding later_verdict
loop-j-init c = search rules

pub returns-then-in_conflict : goal.returns-then-in_conflict
returns-then-in_conflict c =
    let plan = c.args.self.now in
    search (
      rules,
      ground_turn (pair_verdict sharing (requests_of plan.ends.now) (fates_of plan.numbers.now) c.args.i) c.loop-j.j
          (length (requests_of plan.ends.now)) (omega (arith, plan.each, requests_length plan.ends.now)),
      pair_refused _ plan.ends.now plan.numbers.now c.args.i _ _ _ (sym c.in-Served.ensures) c.request_at-r.ensures c.loop-j.j _
          c.in_conflict.ensures c.if-in_conflict.true,
    )

pub loop-j-preserved : goal.loop-j-preserved
loop-j-preserved c =
    let plan = c.args.self.now in
    search (
      rules,
      ground_turn (pair_verdict sharing (requests_of plan.ends.now) (fates_of plan.numbers.now) c.args.i) c.loop-j.j
          (length (requests_of plan.ends.now)) (omega (arith, plan.each, requests_length plan.ends.now)),
      pair_allowed _ plan.ends.now plan.numbers.now c.args.i _ _ _ (sym c.in-Served.ensures) c.request_at-r.ensures c.loop-j.j _
          c.in_conflict.ensures c.if-in_conflict.false,
    )

pub returns : goal.returns
returns c =
    let plan = c.args.self.now in
    search (
      rules,
      ground_ended (pair_verdict sharing (requests_of plan.ends.now) (fates_of plan.numbers.now) c.args.i) c.loop-j.j
          (length (requests_of plan.ends.now)) (omega (arith, plan.each, requests_length plan.ends.now)),
    )

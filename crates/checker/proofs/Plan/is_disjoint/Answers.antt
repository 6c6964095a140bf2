use Prim.Native.Nat.{◌<◌}
use native.Mathlib.Omega.{arith}
use lib.ListN.{length}
use Rattle.ring.specs.Requests.{requests_of}
use Rattle.ring.proofs.RequestLaws.{requests_length}
use Rattle.checker.proofs.PlacingLaws.{disjoint_start, disjoint_turn, disjoint_end}
use Rattle.checker.proofs.Plan.is_disjoint.Goals as goal

pub loop-i-init : goal.loop-i-init
loop-i-init c = rw c.new-held.ensures (disjoint_start _ _)

pub place-requires : goal.place-requires
place-requires c =
    let plan = c.args.self.now in
    let inside : c.loop-i.i < length (requests_of plan.ends.now) = omega (arith, plan.each, requests_length plan.ends.now) in
    rw c.request_at.ensures (plan.valid.ordered _ inside, plan.valid.nodes _ inside)

pub loop-i-preserved : goal.loop-i-preserved
loop-i-preserved c =
    let plan = c.args.self.now in
    let inside : c.loop-i.i < length (requests_of plan.ends.now) = omega (arith, plan.each, requests_length plan.ends.now) in
    disjoint_turn (requests_of plan.ends.now) plan.numbers.now _ _ c.loop-i.i _ plan.valid inside
    c.request_at.ensures (c.place.ensures c.if-not-place.false) c.loop-i.invariant

pub returns : goal.returns
returns c =
    let plan = c.args.self.now in
    λ e. disjoint_end _ _ _ _ (omega (arith, plan.each, requests_length plan.ends.now)) c.loop-i.invariant

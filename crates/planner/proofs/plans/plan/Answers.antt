use Rattle.std.proofs.Common.{rules}
use mathlib.Core.Path.{sym}
use lib.ListN.{length}
use Rattle.ring.specs.Requests.{requests_of}
use Rattle.ring.proofs.RequestLaws.{valid_on_256}
use Rattle.matching.specs.Maximum.{pairs_of}
use Rattle.planner.proofs.MateLaws.{pairs_by_lower}
use Rattle.planner.proofs.ChoiceLaws.{made_fits, colourable_if, call_within, choosable_if, chosen_from, plan_refused, plan_made}
use Rattle.planner.proofs.plans.plan.Goals as goal

pub returns-in_err-ring : goal.returns-in_err-ring
returns-in_err-ring c =
    search (
      rules,
      plan_refused c.args.n c.args.w c.args.ends.now c.args.table.now c.in_err-ring.field-0.0 (sym c.in_err-ring.ensures),
    )

pub colour-chain-requires : goal.colour-chain-requires
colour-chain-requires c =
    let limits = made_fits c.args.n c.args.w c.args.ends.now (length c.args.table.now) _ (sym c.in_ok-ring.ensures) in
    colourable_if c.in_ok-ring.ring.nodes c.in_ok-ring.ring.colours c.args.ends.now c.args.table.now limits

pub maximum-found-requires : goal.maximum-found-requires
maximum-found-requires c =
    let limits = made_fits c.args.n c.args.w c.args.ends.now (length c.args.table.now) _ (sym c.in_ok-ring.ensures) in
    valid_on_256 _ _ limits.ring.nodes_to limits.list.valid

pub invariant_of-call : goal.invariant_of-call
invariant_of-call c =
    let limits = made_fits c.args.n c.args.w c.args.ends.now (length c.args.table.now) _ (sym c.in_ok-ring.ensures) in
    record { within = call_within c.in_ok-ring.ring.nodes c.in_ok-ring.ring.colours c.args.ends.now (length c.args.table.now) limits }

pub choose-requires : goal.choose-requires
choose-requires c =
    let limits = made_fits c.args.n c.args.w c.args.ends.now (length c.args.table.now) _ (sym c.in_ok-ring.ensures) in
    choosable_if c.in_ok-ring.ring.nodes c.in_ok-ring.ring.colours c.args.ends.now c.args.table.now _
    c.colour-chain.result c.maximum-found.result
    limits c.colour-chain.ensures c.maximum-found.ensures

pub returns : goal.returns
returns c =
    let limits = made_fits c.args.n c.args.w c.args.ends.now (length c.args.table.now) _ (sym c.in_ok-ring.ensures) in
    let ring = c.in_ok-ring.ring in
    let R = requests_of c.args.ends.now in
    let P = pairs_of (length R) c.maximum-found.result.mates in
    plan_made c.args.n c.args.w c.args.ends.now c.args.table.now _ ring (sym c.in_ok-ring.ensures)
    P c.maximum-found.ensures.maximum (pairs_by_lower (length R) c.maximum-found.result.mates) c.choose.result
    (chosen_from ring.nodes ring.colours R limits.list.valid c.args.table.now _ c.colour-chain.result
    c.colour-chain.ensures P _ c.choose.result c.choose.ensures)

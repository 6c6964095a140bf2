use native.Mathlib.Omega.{arith}
use Rattle.ring.proofs.RequestLaws.{requests_length}
use Rattle.neighbours.proofs.PrefixLaws.{ends_below, behind_start, behind_turn}
use Rattle.neighbours.proofs.PrefixLaws.{done_start, done_turn, done_end}
use Rattle.neighbours.proofs.prefixes.Goals as goal

pub loop-i-init : goal.loop-i-init
loop-i-init c = behind_start _ _ c.requires.1

pub put-requires : goal.put-requires
put-requires c =
    let few = requests_length c.args.ends.now in
    let ends = ends_below _ _ _ c.requires.0 (omega arith) c.request_at-request.ensures in
    (c.loop-i.invariant.node_sets, omega (arith, ends.0), omega (arith, c.requires.0.few))

pub put-requires-in-loop-i : goal.put-requires-in-loop-i
put-requires-in-loop-i c =
    let few = requests_length c.args.ends.now in
    let ends = ends_below _ _ _ c.requires.0 (omega arith) c.request_at-request.ensures in
    (c.put.ensures.node_sets, omega (arith, ends.1), omega (arith, c.requires.0.few))

pub loop-i-preserved : goal.loop-i-preserved
loop-i-preserved c =
    behind_turn _ _ _ _ _ _ c.request_at-request.ensures c.loop-i.invariant c.put.ensures c.put-in-loop-i.ensures

pub loop-x-init : goal.loop-x-init
loop-x-init c = done_start _ _ c.loop-i.i (omega (arith, requests_length c.args.ends.now)) c.loop-i.invariant

pub join-requires : goal.join-requires
join-requires c =
    let few = requests_length c.args.ends.now in
    (c.loop-x.invariant.node_sets, omega arith, omega (arith, c.requires.0.few, c.div_ceil.ensures))

pub loop-x-preserved : goal.loop-x-preserved
loop-x-preserved c =
    let few = requests_length c.args.ends.now in
    done_turn _ _ _ _ _ c.requires.0 (omega arith) (omega (arith, c.div_ceil.ensures)) c.loop-x.invariant c.join.ensures

pub returns : goal.returns
returns c = done_end _ _ _ (omega arith) c.loop-x.invariant

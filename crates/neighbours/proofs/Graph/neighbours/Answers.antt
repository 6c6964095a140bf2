use Prim.Native.Nat.{◌≤◌}
use native.Mathlib.Omega.{arith}
use Rattle.ring.proofs.RequestLaws.{requests_length}
use Rattle.neighbours.proofs.PrefixLaws.{ends_below, prefixes_node_sets}
use Rattle.neighbours.proofs.CrossingLaws.{uncrossed_end}
use Rattle.neighbours.proofs.Graph.neighbours.Goals as goal

pub request_at-request-requires : goal.request_at-request-requires
request_at-request-requires c = omega (arith, requests_length c.args.self.now.ends.now, c.args.self.now.counted)

pub uncrossed-requires : goal.uncrossed-requires
uncrossed-requires c =
    let graph = c.args.self.now in
    let few = requests_length graph.ends.now in
    let ends = ends_below _ _ _ graph.valid (omega (arith, graph.counted)) c.request_at-request.ensures in
    let words : c.div_ceil.result ≤ 8 = omega (arith, graph.valid.few, graph.counted, c.div_ceil.ensures) in
    (prefixes_node_sets _ _ graph.prefixes, omega (arith, ends), omega (arith, ends), words)

pub returns : goal.returns
returns c =
    let graph = c.args.self.now in
    uncrossed_end _ _ _ _ _ _ c.request_at-request.ensures graph.valid graph.prefixes (omega (arith, graph.counted))
    (omega (arith, graph.counted, c.div_ceil.ensures)) c.uncrossed.ensures

use Prim.Native.Nat.{◌<◌}
use mathlib.Core.Path.{sym, ◌∙◌}
use native.Mathlib.Omega.{arith}
use lib.ListN.{length, get_or}
use Rattle.ring.specs.Requests.{requests_of}
use Rattle.matching.specs.declared.labels.VertexLabel.TheVariants as kind
use Rattle.matching.specs.Maximum.{is_frozen}
use Rattle.matching.proofs.AdjacencyLaws.{adjacent_symmetric}
use Rattle.matching.proofs.AloneLaws.{alone_settles}
use Rattle.matching.proofs.MaximumLaws.{open_exposed, open_free, open_not}
use Rattle.matching.proofs.SearchLaws.{settled_skip}
use Rattle.matching.proofs.roots.settle_alone.Goals as goal
use Rattle.matching.proofs.roots.settle_alone.Goals.{then-is_open+else-not-alone, else-is_open}

pub loop-r-preserved : goal.loop-r-preserved
loop-r-preserved c =
    let due = c.loop-r.invariant.0 in
    let graph = c.args.graph.now in
    let inside : c.loop-r.r < length (requests_of graph.ends.now) = omega (arith, c.loop-r-test.true, graph.counted) in
    let mate = get_or c.args.mates.now c.loop-r.r 0 in
    let done = is_frozen (get_or c.loop-r.labels c.loop-r.r kind.Free) in
    let came = sym c.is_open.ensures in
    elim c.if-is_open.branch [
      | then-is_open+else-not-alone w ↦ (
        record {
          settled = rw (w.labels-is, w.bases-is)
              (alone_settles _ (adjacent_symmetric c.args.graph.now.ends.now) _ _ _ _ due.settled inside
              (open_exposed mate c.loop-r.r done (came ∙ w.if-is_open.true)) (open_free mate c.loop-r.r done (came ∙ w.if-is_open.true))
              (w.alone.ensures.none w.if-not-alone.false));
          most = omega (arith, inside);
        },
        omega (arith, c.loop-r.invariant.1),
      )
      | else-is_open w ↦ (
        record {
          settled = rw (w.labels-is, w.bases-is)
              (settled_skip _ _ _ due.settled inside (open_not mate c.loop-r.r done (came ∙ w.if-is_open.false)));
          most = omega (arith, inside);
        },
        omega (arith, c.loop-r.invariant.1),
      )
    ]

use Prim.Native.Nat.{ℕ}
use native.Mathlib.Omega.{arith}
use lib.ListN.{length-replicate}
use Rattle.matching.proofs.SearchLaws.{rested}
use Rattle.matching.proofs.roots.search_all.Goals as goal

pub loop-r-init : goal.loop-r-init
loop-r-init c =
    let p = c.requires in
    let blank : ℕ = 0 in
    (p.0.rooted, p.1, length-replicate 512 blank, length-replicate 512 blank)

pub run-requires : goal.run-requires
run-requires c =
    let inv = c.loop-r.invariant in
    let inside = rw c.args.graph.now.counted at c.loop-r-test.true in
    (rested _ _ _ _ _ _ inv.2 inv.3 inv.0.due.settled, inv.1, c.loop-r-test.true, inv.0.exposed inside, inv.0.free inside)

pub overflow_add-r : goal.overflow_add-r
overflow_add-r c = omega (arith, c.loop-r-test.true)

pub settle_alone-r-requires : goal.settle_alone-r-requires
settle_alone-r-requires c =
    let blank : ℕ = 0 in
    record {
      settled = rested _ _ _ _ _ _ (length-replicate 512 blank) (length-replicate 512 blank) c.run.ensures.0;
      most = omega (arith, c.loop-r-test.true, c.args.graph.now.counted);
    }

pub loop-r-smaller : goal.loop-r-smaller
loop-r-smaller c = omega (arith, c.loop-r-test.true, c.settle_alone-r.ensures.1)

pub loop-r-preserved : goal.loop-r-preserved
loop-r-preserved c = (
  c.settle_alone-r.ensures.0,
  c.run.ensures.1,
  c.run.ensures.0.sized.parents,
  c.run.ensures.0.sized.queue,
)

pub pair_count-size-requires : goal.pair_count-size-requires
pair_count-size-requires c = omega (arith, c.args.graph.now.counted, c.args.graph.now.valid.few)

pub returns : goal.returns
returns c =
    let rooted = c.loop-r.invariant.0 in (
      record { rooted = rooted; counted = rw c.args.graph.now.counted at c.pair_count-size.ensures },
      omega (arith, c.loop-r-test.false, rooted.due.most, c.args.graph.now.counted),
    )

use Prim.Native.Nat.{◌+◌, ◌/◌}
use mathlib.Core.Path.{◌≡◌}
use native.Mathlib.Omega.{arith}
use lib.ListN.{length-set}
use Rattle.matching.proofs.MeasureLaws.{measured_start, measured_turn}
use Rattle.matching.proofs.starts.measure.Goals as goal

pub loop-i-init : goal.loop-i-init
loop-i-init c = (omega arith, c.told-sizes, measured_start _ _ _)

pub loop-i-preserved : goal.loop-i-preserved
loop-i-preserved c =
    let here = c.loop-i.invariant in
    let graph = c.args.graph.now in (
      omega (arith, c.max-largest.ensures, c.size-size.ensures.1, here.0),
      simp length-set here.1,
      rw c.max-largest.ensures
          (measured_turn here.2 (omega (arith, here.1, graph.counted, graph.valid.few)) c.neighbours.ensures c.size-size.ensures.0),
    )

pub returns : goal.returns
returns c =
    let here = c.loop-i.invariant in
    let over : c.loop-i.i ≡ c.args.graph.now.count = omega arith in
    let words : c.div_ceil-words.result ≡ (c.args.graph.now.count + 63) / 64 = omega (arith, c.div_ceil-words.ensures) in
    (rw (over, words) at here.2, here.0)

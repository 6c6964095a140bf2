use Prim.Native.Nat.{◌*◌, ◌≤◌}
use mathlib.Core.Path.{sym}
use native.Mathlib.Nat.{mul-le-mul_right}
use Rattle.std.proofs.Common.{ℕ, ◌∙◌, ap, take, length-take, arith}
use Rattle.book.specs.Circuits.{is_live}
use Rattle.book.proofs.Places.{records_take}
use Rattle.book_replies.proofs.ListingLaws.{listed_room, listed_so, listed_not, listed_all}
use Rattle.charges_text.specs.Internal.Lines.{line_by}
use Rattle.charges_text.proofs.LineLaws.{line_short}
use Rattle.charges_text.proofs.layout.put_orders.Goals as goal
use Rattle.charges_text.proofs.layout.put_orders.Goals.{then-is_live, else-is_live}

pub put_order-requires : goal.put_order-requires
put_order-requires c =
    let l = c.loop-circuit in
    let size = length-take c.record_count.result c.args.book.now.places in
    listed_room (line_by c.args.tariff.now) 27 is_live _ c.args.writer.now l.circuit-index l.invariant
    (omega (arith, c.record_count.ensures.1)) c.requires

pub loop-circuit-preserved : goal.loop-circuit-preserved
loop-circuit-preserved c =
    let l = c.loop-circuit in
    let line = line_by c.args.tariff.now in
    let cs = take c.record_count.result c.args.book.now.places in
    elim c.if-is_live.branch [
      | then-is_live w ↦
          rw w.writer-is
          (listed_so line 27 is_live cs c.args.writer.now l.circuit-index l.invariant c.loop-circuit-test.true
          (sym c.is_live.ensures ∙ w.if-is_live.true) (line_short c.args.tariff.now _) w.put_order.ensures)
      | else-is_live w ↦
          rw w.writer-is
          (listed_not line 27 is_live cs c.args.writer.now l.circuit-index l.invariant c.loop-circuit-test.true
          (sym c.is_live.ensures ∙ w.if-is_live.false))
    ]

pub returns-clause-wrote : goal.returns-clause-wrote
returns-clause-wrote c =
    let b = c.args.book.now in
    let l = c.loop-circuit in
    let size = length-take c.record_count.result b.places in
    let all = ap (λ (k : ℕ). take k b.places) c.record_count.ensures.0 ∙ records_take b in
    rw (← all)
    (listed_all (line_by c.args.tariff.now) 27 is_live _ c.args.writer.now l.circuit-index l.invariant c.loop-circuit-test.false
    (omega (arith, c.record_count.ensures.1)) c.requires)

pub returns-clause-few : goal.returns-clause-few
returns-clause-few c =
    let l = c.loop-circuit in
    let size = length-take c.record_count.result c.args.book.now.places in
    let most : l.circuit-index ≤ 512 = omega (arith, c.record_count.ensures.1) in
    let all : l.circuit-index * 27 ≤ 512 * 27 = mul-le-mul_right 27 most in
    omega (arith, l.invariant.few)

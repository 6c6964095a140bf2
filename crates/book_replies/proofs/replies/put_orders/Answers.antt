use Rattle.std.proofs.Common.{ℕ, ◌∙◌, ap, take, length-take, arith}
use Rattle.book.proofs.Places.{records_take}
use Rattle.book_replies.specs.Replies.{order_text}
use Rattle.book_replies.specs.Internal.Listing.{is_listed}
use Rattle.book_replies.proofs.ReplyLaws.{order_short}
use Rattle.book_replies.proofs.ListingLaws.{in_state, listed_room, listed_so, listed_not, listed_all}
use Rattle.book_replies.proofs.replies.put_orders.Goals as goal
use Rattle.book_replies.proofs.replies.put_orders.Goals.{then-eq, else-eq}

pub put_order-requires : goal.put_order-requires
put_order-requires c =
    let l = c.loop-circuit in
    let size = length-take c.record_count.result c.args.book.now.places in
    listed_room order_text 32 (is_listed c.args.state) _ c.args.writer.now l.circuit-index l.invariant
    (omega (arith, c.record_count.ensures.1)) c.requires

pub loop-circuit-preserved : goal.loop-circuit-preserved
loop-circuit-preserved c =
    let l = c.loop-circuit in
    let p = is_listed c.args.state in
    let cs = take c.record_count.result c.args.book.now.places in
    elim c.if-eq.branch [
      | then-eq w ↦
          rw w.writer-is
          (listed_so order_text 32 p cs c.args.writer.now l.circuit-index l.invariant c.loop-circuit-test.true
          (in_state c.args.state _ w.if-eq.ensures) (order_short _) w.put_order.ensures)
      | else-eq w ↦
          rw w.writer-is
          (listed_not order_text 32 p cs c.args.writer.now l.circuit-index l.invariant c.loop-circuit-test.true
          (in_state c.args.state _ w.if-eq.ensures))
    ]

pub returns : goal.returns
returns c =
    let b = c.args.book.now in
    let l = c.loop-circuit in
    let size = length-take c.record_count.result b.places in
    let all = ap (λ (k : ℕ). take k b.places) c.record_count.ensures.0 ∙ records_take b in
    rw (← all)
    (listed_all order_text 32 (is_listed c.args.state) _ c.args.writer.now l.circuit-index l.invariant c.loop-circuit-test.false
    (omega (arith, c.record_count.ensures.1)) c.requires)

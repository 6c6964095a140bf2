-- The loop's invariant: the lines of those of the records so far that are listed are written.
use Rattle.book_replies.specs.Replies.{order_text}
use Rattle.book_replies.specs.Internal.Listing.{is_listed}
use Rattle.book_replies.proofs.ListingLaws.{Listed}
use Rattle.book_replies.proofs.replies.put_orders.Given as goal

abbrev pub invariant-loop-circuit : goal.invariant-loop-circuit
invariant-loop-circuit l = Listed order_text 32 (is_listed l.state) l.circuit-items l.initial.writer l.circuit-index l.writer

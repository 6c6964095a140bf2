-- The loop's invariant: the lines of the live ones of the records so far are written.
use Rattle.book.specs.Circuits.{is_live}
use Rattle.book_replies.proofs.ListingLaws.{Listed}
use Rattle.charges_text.specs.Internal.Lines.{line_by}
use Rattle.charges_text.proofs.layout.put_orders.Given as goal

abbrev pub invariant-loop-circuit : goal.invariant-loop-circuit
invariant-loop-circuit l = Listed (line_by l.tariff) 27 is_live l.circuit-items l.initial.writer l.circuit-index l.writer

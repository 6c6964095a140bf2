use Rattle.texts.proofs.WritingLaws.{wrote_then}
use Rattle.book_replies.specs.Replies.{order_text}
use Rattle.book_replies.proofs.replies.put_order.Goals as goal

pub returns : goal.returns
unfolding order_text
returns c = wrote_then c.labelled.ensures c.put_circuit.ensures

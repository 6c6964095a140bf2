use Rattle.texts.proofs.WritingLaws.{wrote_then}
use Rattle.book_replies.specs.Replies.{circuit_text}
use Rattle.book_replies.proofs.replies.put_circuit.Goals as goal

pub returns : goal.returns
unfolding circuit_text
returns c =
    wrote_then c.labelled.ensures (wrote_then c.labelled-2.ensures (wrote_then c.way.ensures c.byte.ensures))

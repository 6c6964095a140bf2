use Rattle.texts.proofs.WritingLaws.{wrote_then}
use Rattle.book_replies.specs.Replies.{refused_text}
use Rattle.book_replies.proofs.replies.put_refused.Goals as goal

pub returns : goal.returns
unfolding refused_text
returns c =
    rw (← c.number.ensures)
    (wrote_then c.labelled.ensures (wrote_then c.byte.ensures c.ground_line.ensures))

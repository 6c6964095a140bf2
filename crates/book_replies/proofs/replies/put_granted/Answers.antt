use Rattle.texts.proofs.WritingLaws.{wrote_then}
use Rattle.book_replies.proofs.replies.put_granted.Goals as goal

pub returns-in-None : goal.returns-in-None
returns-in-None c = rw c.in-None.is (wrote_then c.put_would_grant.ensures.wrote c.byte.ensures)

pub returns-in-Some : goal.returns-in-Some
returns-in-Some c =
    rw c.in-Some.is
    (wrote_then c.put_would_grant.ensures.wrote
    (wrote_then c.labelled.ensures (wrote_then c.byte-in-Some.ensures c.put_refused.ensures)))

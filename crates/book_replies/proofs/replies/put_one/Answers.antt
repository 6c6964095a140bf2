use Rattle.texts.proofs.WritingLaws.{wrote_then}
use Rattle.book_replies.specs.Replies.{one_number}
use Rattle.book_replies.proofs.replies.put_one.Goals as goal

pub returns : goal.returns
unfolding one_number
returns c = wrote_then c.labelled.ensures c.byte.ensures

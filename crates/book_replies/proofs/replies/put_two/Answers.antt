use Rattle.texts.proofs.WritingLaws.{wrote_then}
use Rattle.book_replies.specs.Replies.{two_numbers}
use Rattle.book_replies.proofs.replies.put_two.Goals as goal

pub returns : goal.returns
unfolding two_numbers
returns c = wrote_then c.labelled.ensures c.put_one.ensures

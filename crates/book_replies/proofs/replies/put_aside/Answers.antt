use native.Mathlib.Omega.{arith}
use Rattle.texts.proofs.WritingLaws.{wrote_none}
use Rattle.book_replies.specs.Replies.{help_text}
use Rattle.book_replies.proofs.replies.put_aside.Goals as goal

pub returns-in-Help : goal.returns-in-Help
unfolding help_text
returns-in-Help c = rw c.in-Help.is c.bytes.ensures

pub returns-in-Nothing : goal.returns-in-Nothing
returns-in-Nothing c = rw c.in-Nothing.is (wrote_none _ (omega arith))

pub returns-in-Unreadable : goal.returns-in-Unreadable
returns-in-Unreadable c = rw c.in-Unreadable.is c.put_unreadable.ensures

pub returns-in-Unfinished : goal.returns-in-Unfinished
returns-in-Unfinished c = rw c.in-Unfinished.is c.bytes-in-Unfinished.ensures

pub returns-in-TooLong : goal.returns-in-TooLong
returns-in-TooLong c = rw c.in-TooLong.is c.bytes-in-TooLong.ensures

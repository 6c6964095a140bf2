-- The loop's invariant: the serials so far are written.
use Rattle.std.proofs.Common.{take}
use Rattle.texts.specs.Internal.Writing.{Wrote}
use Rattle.book_replies.specs.Replies.{serials_text}
use Rattle.book_replies.proofs.replies.put_serials.Given as goal

abbrev pub invariant-loop-serial : goal.invariant-loop-serial
invariant-loop-serial l = Wrote l.initial.writer (serials_text (take l.serial-index l.serial-items)) l.writer

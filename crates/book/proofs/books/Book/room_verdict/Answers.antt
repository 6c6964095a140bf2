use Rattle.std.proofs.Common.{rules}
use Rattle.book.specs.Grants.{room_verdict}
use Rattle.book.proofs.books.Book.room_verdict.Goals as goal

pub returns-in_err-refuse_if : goal.returns-in_err-refuse_if
unfolding room_verdict
returns-in_err-refuse_if c = search rules

pub returns : goal.returns
unfolding room_verdict
returns c = search rules

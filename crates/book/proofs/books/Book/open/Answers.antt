use Rattle.std.proofs.Common.{rules}
use Rattle.ring.specs.Admission.{ring_answer}
use Rattle.book.specs.Books.{opened}
use Rattle.book.proofs.books.Book.open.Goals as goal

pub returns-in_err-new : goal.returns-in_err-new
unfolding ring_answer opened
returns-in_err-new c = search rules

pub returns : goal.returns
unfolding ring_answer opened
returns c = search rules

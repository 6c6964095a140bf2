use Rattle.std.proofs.Common.{sym}
use Rattle.book.specs.Orders.{missing, shown}
use Rattle.book.proofs.books.Book.show_all.Goals as goal

pub returns-in_default : goal.returns-in_default
unfolding shown missing
returns-in_default c = simp (sym c.look_up_live.ensures, c.in_default.is, c.unknown_or.ensures)

pub returns : goal.returns
unfolding shown
returns c = simp (sym c.look_up_live.ensures, c.in-Some.is)

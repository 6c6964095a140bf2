use Rattle.std.proofs.Common.{sym}
use Rattle.book.specs.Orders.{own_shown}
use Rattle.book.proofs.books.Book.show_own.Goals as goal

pub returns-in_default : goal.returns-in_default
unfolding own_shown
returns-in_default c = simp (sym c.look_up.ensures, c.in_default.is)

pub returns-then-is_own : goal.returns-then-is_own
unfolding own_shown
returns-then-is_own c = simp (sym c.look_up.ensures, c.in-Some.is, sym c.is_own.ensures, c.if-is_own.true)

pub returns-else-is_own : goal.returns-else-is_own
unfolding own_shown
returns-else-is_own c = simp (sym c.look_up.ensures, c.in-Some.is, sym c.is_own.ensures, c.if-is_own.false)

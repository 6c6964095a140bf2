use Rattle.std.proofs.Common.{sym, ◌∙◌}
use Rattle.book.specs.Orders.{lookup}
use Rattle.book.proofs.books.Book.look_up.Goals as goal

pub returns-then-never_gave : goal.returns-then-never_gave
unfolding lookup
returns-then-never_gave c = simp (sym c.never_gave.ensures, c.if-never_gave.true)

pub returns : goal.returns
unfolding lookup
returns c = c.find.ensures ∙ simp (sym c.never_gave.ensures, c.if-never_gave.false)

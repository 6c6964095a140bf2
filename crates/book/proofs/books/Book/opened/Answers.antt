use Rattle.std.proofs.Common.{sym, ◌∙◌, ap}
use Rattle.std.specs.Result.{result_unwrap_or}
use Rattle.book.specs.declared.books.Book.{Book}
use Rattle.book.specs.Books.{Opened}
use Rattle.book.proofs.Opening.{opening_book}
use Rattle.book.proofs.books.Book.opened.Goals as goal

pub returns : goal.returns
returns c =
    c.unwrap_or.ensures
    ∙ ap (result_unwrap_or c.open.result) c.blank.ensures
    ∙ opening_book c.open.result
    ∙ ap (λ (o : Opened). o.book) c.open.ensures

use Rattle.std.proofs.Common.{rules}
use Rattle.book.specs.Revisions.{revision}
use Rattle.book.proofs.books.Book.revision.Goals as goal

pub returns : goal.returns
unfolding revision
returns c = search rules

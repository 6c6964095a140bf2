use Rattle.std.proofs.Common.{◌≡◌, sym, ◌∙◌, rules}
use Rattle.std.specs.List.{count_by}
use Rattle.std.proofs.iter.runs.Made.{chains}
use Rattle.std.proofs.lemmas.List.Sums.{length-filter}
use Rattle.book.specs.Circuits.{is_live}
use Rattle.book.specs.Books.{records_of}
use Rattle.book.proofs.books.Book.live_count.Goals as goal

pub returns : goal.returns
returns c =
    let cs = records_of c.args.self.now in
    let counted : c.count.result ≡ count_by is_live cs = search (rules, chains) in
    counted ∙ sym (length-filter is_live cs)

use Rattle.std.proofs.Common.{◌∙◌, rules, tests}
use Rattle.std.proofs.lemmas.Iterator.{YieldsList-from_slice}
use Rattle.std.proofs.lemmas.Iterator.Search.{any_from_yields_List}
use Rattle.book.specs.Circuits.{is_marked, some_circuit}
use Rattle.book.specs.Books.{has_marked}
use Rattle.book.proofs.books.Book.has_marked.Goals as goal

pub returns : goal.returns
unfolding has_marked some_circuit
returns c =
    any_from_yields_List is_marked _ _ _ c.any.ensures.ran
    (YieldsList-from_slice _ (c.iter.ensures.rest ∙ c.records.ensures))
    (λ x b q k. search (rules, tests))

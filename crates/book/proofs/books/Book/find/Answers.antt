-- the place of the first record of the serial
use Rattle.std.proofs.Common.{◌≡◌, ◌==◌, sym, ◌∙◌, rules, tests}
use Rattle.std.specs.Prelude.{position}
use Rattle.std.proofs.lemmas.Iterator.{YieldsList-from_slice}
use Rattle.std.proofs.lemmas.Iterator.Search.{position_from_yields_List}
use Rattle.book.specs.declared.circuits.Circuit.{Circuit}
use Rattle.book.specs.Books.{records_of}
use Rattle.book.proofs.Searches.{lookup_none, lookup_some}
use Rattle.book.proofs.books.Book.find.Goals.{After-position}
use Rattle.book.proofs.books.Book.find.Goals as goal

found : (c : After-position) → c.position.result ≡ position (λ (x : Circuit). x.serial == c.args.serial) (records_of c.args.self.now)
found c =
    position_from_yields_List (λ (x : Circuit). x.serial == c.args.serial) _ _ c.position.result c.position.ensures.ran
    (YieldsList-from_slice _ (c.iter.ensures.rest ∙ c.records.ensures))
    (λ x b q k. search (rules, tests))

pub returns-in_err-place : goal.returns-in_err-place
returns-in_err-place c =
    c.from_residual.ensures
    ∙ lookup_none c.args.self.now c.args.serial (sym (found (goal.at.returns-in_err-place c).After-position) ∙ c.in_err-place.was)

pub returns : goal.returns
returns c =
    lookup_some c.args.self.now c.args.serial c.in_ok-place.place
    (sym (found (goal.at.returns c).After-position) ∙ c.in_ok-place.was)

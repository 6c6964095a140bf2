use Rattle.std.proofs.Common.{◌≡◌, sym, ◌∙◌, ap, rules}
use Rattle.std.specs.Prelude.{position}
use Rattle.book.specs.declared.circuits.Circuit.{Circuit}
use Rattle.book.specs.Circuits.{holds}
use Rattle.book.specs.Books.{records_of}
use Rattle.book.specs.Holders.{holder_verdict, held_for}
use Rattle.book.proofs.Searches.{holder_none, holder_some}
use Rattle.book.proofs.books.Book.holder.Goals.{After-holder_place}
use Rattle.book.proofs.books.Book.holder.Goals as goal

pub returns-in_err-crew_verdict : goal.returns-in_err-crew_verdict
unfolding holder_verdict held_for
returns-in_err-crew_verdict c = search rules

pub returns-in_err-refuse_if : goal.returns-in_err-refuse_if
unfolding holder_verdict held_for
returns-in_err-refuse_if c = search rules

pub returns-in_err-refuse_if-2 : goal.returns-in_err-refuse_if-2
unfolding holder_verdict held_for
returns-in_err-refuse_if-2 c = search rules

-- the place that the search among the records gives
found : (c : After-holder_place) → c.holder_place.result
    ≡ position (λ (x : Circuit). holds x c.args.link c.args.colour) (records_of c.args.self.now)
found c = c.holder_place.ensures ∙ ap (position (λ (x : Circuit). holds x c.args.link c.args.colour)) c.records.ensures

pub returns-in_default : goal.returns-in_default
unfolding holder_verdict held_for
returns-in_default c =
    let s = c.args in
    let nobody = holder_none s.crew s.self.now s.link s.colour
    (sym (found (goal.at.returns-in_default c).After-holder_place) ∙ c.in_default.is) in
    search rules

pub returns : goal.returns
unfolding holder_verdict held_for
returns c =
    let s = c.args in
    let somebody = holder_some s.crew s.self.now s.link s.colour c.in-Some.place
    (sym (found (goal.at.returns c).After-holder_place) ∙ c.in-Some.is) in
    search rules

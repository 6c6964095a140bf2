-- what is removed, by the lookup
use Rattle.std.proofs.Common.{◌<◌, sym, ◌∙◌, length, arith}
use Rattle.book.specs.Orders.{missing}
use Rattle.book.specs.Removals.{removed}
use Rattle.book.proofs.Places.{records_fit}
use Rattle.book.proofs.Lookups.{found_place, live_found_lem}
use Rattle.book.proofs.books.Book.remove.Goals.{After-as_pending}
use Rattle.book.proofs.books.Book.remove.Goals as goal

-- the record's place is one of the 512
below : (c : After-as_pending) → c.in-Some.place < length c.args.self.now.places
below c =
    let b = c.args.self.now in
    let place = found_place b c.args.serial c.in-Some.place _
    (live_found_lem b c.args.serial _ _ (sym c.look_up_live.ensures ∙ c.in-Some.is)) in
    omega (arith, records_fit b)

pub returns-in_default : goal.returns-in_default
unfolding removed missing
returns-in_default c = simp (sym c.look_up_live.ensures, c.in_default.is, c.unknown_or.ensures)

pub offset_bounds-self-place : goal.offset_bounds-self-place
offset_bounds-self-place c = omega (arith, below (goal.at.offset_bounds-self-place c).After-as_pending)

pub bounds-self-place : goal.bounds-self-place
bounds-self-place c = omega (arith, below (goal.at.bounds-self-place c).After-as_pending)

pub returns : goal.returns
unfolding removed
returns c = simp (sym c.look_up_live.ensures, c.in-Some.is, c.as_pending.ensures)

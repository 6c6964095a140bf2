-- an allowed grant has a place and a serial
use Rattle.std.proofs.Common.{◌<◌, ◌≡◌, sym, ◌∙◌, arith}
use Rattle.std.specs.Prelude.{Ok}
use Rattle.std.proofs.lemmas.Result.{err_from_is_err_and}
use Rattle.book.specs.Internal.Conflicts.{verdict_by_ends}
use Rattle.book.proofs.Granting.{room_there, grant_allowed, grant_refused}
use Rattle.book.proofs.books.Book.grant.Goals.{In_ok-grant_verdict}
use Rattle.book.proofs.books.Book.grant.Goals as goal

allowed : (c : In_ok-grant_verdict)
    → verdict_by_ends c.args.self.now c.args.line.x c.args.line.y c.args.line.way c.args.line.colour c.args.line.crew ≡ Ok tt
allowed c = sym c.grant_verdict.ensures ∙ c.in_ok-grant_verdict.was

room : (c : In_ok-grant_verdict) → (c.args.self.now.records < 512) × (c.args.self.now.grants < 65535)
room c =
    let l = c.args.line in room_there c.args.self.now l.x l.y l.way l.colour l.crew (allowed c)

pub returns-in_err-grant_verdict-clause-promise : goal.returns-in_err-grant_verdict-clause-promise
returns-in_err-grant_verdict-clause-promise c =
    let l = c.args.line in
    let p = err_from_is_err_and c.from_residual.result c.from_residual.ensures.1 in
    rw (p.1, p.2) (grant_refused c.args.self.now l.x l.y l.way l.colour l.crew _
    (sym c.grant_verdict.ensures ∙ c.in_err-grant_verdict.was))

pub overflow_add-serial : goal.overflow_add-serial
overflow_add-serial c = omega (arith, (room c).1)

pub bounds-self-place : goal.bounds-self-place
bounds-self-place c = omega (arith, (room (goal.at.bounds-self-place c).In_ok-grant_verdict).0)

pub overflow_add-self : goal.overflow_add-self
overflow_add-self c = omega (arith, (room (goal.at.overflow_add-self c).In_ok-grant_verdict).0)

pub returns-clause-promise : goal.returns-clause-promise
returns-clause-promise c =
    let l = c.args.line in
    rw (c.from-place.ensures, c.circuit.ensures)
    (grant_allowed c.args.self.now l.x l.y l.way l.colour l.crew (allowed (goal.at.returns-clause-promise c).In_ok-grant_verdict))

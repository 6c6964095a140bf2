use native.Mathlib.Omega.{arith}
use Rattle.book_lines.proofs.AskingLaws.{reading_begins, reading_out, reading_ended, reading_lost, reading_goes_on}
use Rattle.book_lines.proofs.asking.lines_of.Goals as goal

pub loop-init : goal.loop-init
loop-init c = reading_begins c.args.text.now c.new-reader.ensures c.blank-bundle.ensures

pub returns-in-Some : goal.returns-in-Some
returns-in-Some c =
    rw c.then_some.ensures
    (reading_ended c.loop.invariant c.is_at_end.result (omega arith) c.in-Some.ensures.same c.is_at_end.ensures c.push.ensures)

pub loop-preserved : goal.loop-preserved
loop-preserved c =
    reading_goes_on c.loop.invariant c.in_default.ensures.same c.in_default.ensures.left (omega arith)
    c.in_ok-line.ensures.same c.pass_space.ensures c.push-in-loop.ensures

pub returns-in_err-line : goal.returns-in_err-line
returns-in_err-line c =
    rw c.from_residual.ensures
    (reading_lost c.loop.invariant c.in_default.ensures.same c.in_default.ensures.left (omega arith)
    c.in_err-line.ensures.same)

pub returns : goal.returns
returns c = reading_out c.loop.invariant (omega arith)

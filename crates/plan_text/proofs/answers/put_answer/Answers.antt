use mathlib.Core.Path.{◌≡◌, sym}
use native.Mathlib.Omega.{arith}
use lib.ListN.{take}
use lib.Seq.{length-take-le}
use Prim.Native.Nat.{◌*◌}
use Rattle.plan_text.specs.Reading.{readable, reading_of}
use Rattle.plan_text.proofs.AnswerLaws.{planned_few, printed_unreadable, printed_refused, printed_planned}
use Rattle.plan_text.proofs.answers.put_answer.Goals as goal

pub returns-in_default : goal.returns-in_default
returns-in_default c = printed_unreadable _ c.in_default.ensures.same c.number.ensures c.put_refused.ensures

pub slice_bounds-table-end : goal.slice_bounds-table-end
slice_bounds-table-end c =
    let few = planned_few c.plan.ensures c.in-Ok.is in
    omega arith

pub slice_bounds-put_plan-end : goal.slice_bounds-put_plan-end
slice_bounds-put_plan-end c =
    let few = planned_few c.plan.ensures c.in-Ok.is in
    sym (length-take-le _ _ (omega arith))

pub returns-in-Ok : goal.returns-in-Ok
returns-in-Ok c =
    let few = planned_few c.plan.ensures c.in-Ok.is in
    let line = c.in-Some.field-0 in
    let said : readable line.n line.w (take (2 * c.from-entries.result) c.read.new.buffer) ≡ reading_of c.args.text.now =
    rw c.from-entries.ensures c.in-Some.ensures.same in
    printed_planned _ said c.plan.ensures c.in-Ok.is (omega arith) c.put_plan.ensures

pub returns-in-Err : goal.returns-in-Err
returns-in-Err c =
    let line = c.in-Some.field-0 in
    let said : readable line.n line.w (take (2 * c.from-entries.result) c.read.new.buffer) ≡ reading_of c.args.text.now =
    rw c.from-entries.ensures c.in-Some.ensures.same in
    printed_refused _ said c.plan.ensures c.in-Err.is c.number-in-Err.ensures c.put_refused-in-Err.ensures

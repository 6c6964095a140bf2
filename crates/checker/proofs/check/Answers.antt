use Rattle.std.proofs.Common.{rules}
use mathlib.Core.Path.{sym, ◌∙◌}
use Rattle.checker.proofs.AnswerLaws.{call_refused, numbers_length, numbers_valid, numbers_each, numbers_few, few_colours, call_made}
use Rattle.checker.proofs.check.Goals as goal

pub returns-in_err-call_answer : goal.returns-in_err-call_answer
returns-in_err-call_answer c =
    search (
      rules,
      call_refused c.args.n c.args.w c.args.ends.now c.args.table.now c.in_err-call_answer.field-0.0 (sym c.in_err-call_answer.ensures),
    )

pub slice_bounds-plan-end : goal.slice_bounds-plan-end
slice_bounds-plan-end c =
    sym (numbers_length c.args.n c.args.w c.args.ends.now c.args.table.now _ (sym c.in_ok-call_answer.ensures))

pub invariant_of-plan-clause-valid : goal.invariant_of-plan-clause-valid
invariant_of-plan-clause-valid c =
    numbers_valid c.args.n c.args.w c.args.ends.now c.args.table.now _ (sym c.in_ok-call_answer.ensures)

pub invariant_of-plan-clause-each : goal.invariant_of-plan-clause-each
invariant_of-plan-clause-each c =
    numbers_each c.args.n c.args.w c.args.ends.now c.args.table.now _ (sym c.in_ok-call_answer.ensures)

pub invariant_of-plan-clause-few : goal.invariant_of-plan-clause-few
invariant_of-plan-clause-few c =
    numbers_few c.args.n c.args.w c.args.ends.now c.args.table.now _ (sym c.in_ok-call_answer.ensures)

pub answer-requires : goal.answer-requires
answer-requires c =
    few_colours c.args.n c.args.w c.args.ends.now c.args.table.now _ (sym c.in_ok-call_answer.ensures)

pub returns : goal.returns
returns c =
    c.answer.ensures ∙ call_made c.args.n c.args.w c.args.ends.now c.args.table.now _ (sym c.in_ok-call_answer.ensures)

use mathlib.Core.Path.{sym}
use native.Mathlib.Omega.{arith}
use lib.ListN.{get_or}
use Rattle.texts.proofs.FieldLaws.{one_more_digit, tens_small}
use Rattle.texts.proofs.fields.number.Goals as goal

pub overflow_mul-value : goal.overflow_mul-value
overflow_mul-value c =
    let here = c.loop-count in
    let digit = one_more_digit c.args.most (get_or c.args.text.now here.count 0) here.count (sym c.if-not-one_more.ensures) in
    let small = tens_small here.count here.value (omega arith) here.invariant.1 in
    omega arith

pub overflow_add-value : goal.overflow_add-value
overflow_add-value c =
    let here = c.loop-count in
    let digit = one_more_digit c.args.most (get_or c.args.text.now here.count 0) here.count (sym c.if-not-one_more.ensures) in
    let small = tens_small here.count here.value (omega arith) here.invariant.1 in
    omega arith

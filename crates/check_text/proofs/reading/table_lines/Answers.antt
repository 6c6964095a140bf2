use mathlib.Core.Path.{◌∙◌, ap}
use native.Mathlib.Omega.{arith}
use lib.ListN.{length, length-set}
use Rattle.texts.proofs.FieldLaws.{field_shorter}
use Rattle.check_text.proofs.TableLaws.{table_turn}
use Rattle.check_text.proofs.reading.table_lines.Goals as goal

pub bounds-buffer-i : goal.bounds-buffer-i
bounds-buffer-i c =
    let shorter = field_shorter _ _ c.in_ok-buffer.ensures.same in
    let size = ap length (c.new-ahead.ensures ∙ c.rest.ensures) in
    omega arith

pub loop-i-preserved : goal.loop-i-preserved
loop-i-preserved c =
    let here = c.loop-i in
    let shorter = field_shorter _ _ c.in_ok-buffer.ensures.same in
    let size = ap length (c.new-ahead.ensures ∙ c.rest.ensures) in
    let turn = table_turn here.buffer _ here.i c.args.m (omega arith) (omega arith) c.in_ok-buffer.ensures.same in
    (omega arith, simp length-set here.invariant.1, turn ∙ here.invariant.2)

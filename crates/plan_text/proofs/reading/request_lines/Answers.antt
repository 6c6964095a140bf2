use mathlib.Core.Path.{◌∙◌, ap}
use native.Mathlib.Omega.{arith}
use lib.ListN.{length, length-set}
use Rattle.texts.proofs.FieldLaws.{line_shorter}
use Rattle.plan_text.proofs.LineLaws.{lines_turn}
use Rattle.plan_text.proofs.reading.request_lines.Goals as goal

pub bounds-buffer-i : goal.bounds-buffer-i
bounds-buffer-i c =
    let shorter = line_shorter _ c.in_ok-x.ensures.same in
    let size = ap length (c.new-ahead.ensures ∙ c.rest.ensures) in
    omega arith

pub bounds-buffer-i-in-loop-i : goal.bounds-buffer-i-in-loop-i
bounds-buffer-i-in-loop-i c =
    let shorter = line_shorter _ c.in_ok-x.ensures.same in
    let size = ap length (c.new-ahead.ensures ∙ c.rest.ensures) in
    simp length-set (omega arith)

pub loop-i-preserved : goal.loop-i-preserved
loop-i-preserved c =
    let here = c.loop-i in
    let shorter = line_shorter _ c.in_ok-x.ensures.same in
    let size = ap length (c.new-ahead.ensures ∙ c.rest.ensures) in
    let turn = lines_turn here.buffer _ here.i c.args.m (omega arith) (omega arith) c.in_ok-x.ensures.same in
    (omega arith, simp length-set here.invariant.1, turn ∙ here.invariant.2)

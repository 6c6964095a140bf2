use native.Mathlib.Omega.{arith}
use Rattle.texts.proofs.WritingLaws.{wrote_none}
use Rattle.plan_text.proofs.LayoutLaws.{fate_line_short, wrote_line}
use Rattle.plan_text.proofs.layout.put_fate_lines.Goals as goal

pub loop-i-init : goal.loop-i-init
loop-i-init c = (omega arith, wrote_none c.args.writer.now (omega arith))

pub loop-i-preserved : goal.loop-i-preserved
loop-i-preserved c =
    let here = c.loop-i in
    let short = fate_line_short here.i c.from.result in
    let line = c.put_fate_line.ensures in
    (omega arith, wrote_line c.args.table.now here.i c.loop-i-test.true c.from.ensures here.invariant.1 line)

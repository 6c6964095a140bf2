use Rattle.plan_text.specs.Layout.{plan_text}
use Rattle.texts.proofs.WritingLaws.{wrote_then}
use Rattle.plan_text.proofs.layout.put_plan.Goals as goal

pub returns : goal.returns
unfolding plan_text
returns c = wrote_then c.put_plan_line.ensures (wrote_then c.put_counts_line.ensures c.put_fate_lines.ensures)

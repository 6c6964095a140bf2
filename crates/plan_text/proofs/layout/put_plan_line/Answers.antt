use Rattle.plan_text.specs.Layout.{plan_line}
use Rattle.texts.proofs.WritingLaws.{wrote_then}
use Rattle.plan_text.proofs.layout.put_plan_line.Goals as goal

pub returns : goal.returns
unfolding plan_line
returns c = wrote_then c.labelled.ensures (wrote_then c.labelled-2.ensures (wrote_then c.labelled-3.ensures c.byte.ensures))

use Rattle.plan_text.specs.Layout.{fate_line}
use Rattle.texts.proofs.WritingLaws.{wrote_then}
use Rattle.plan_text.proofs.layout.put_fate_line.Goals as goal

pub returns : goal.returns
unfolding fate_line
returns c = wrote_then c.number.ensures c.put_fate.ensures

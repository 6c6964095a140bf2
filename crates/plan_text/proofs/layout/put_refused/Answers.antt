use Rattle.plan_text.specs.Layout.{refused_line}
use Rattle.texts.proofs.WritingLaws.{wrote_then}
use Rattle.plan_text.proofs.layout.put_refused.Goals as goal

pub returns : goal.returns
unfolding refused_line
returns c = wrote_then c.labelled.ensures c.byte.ensures

use Rattle.texts.specs.Layout.{labelled}
use Rattle.texts.proofs.WritingLaws.{wrote_then}
use Rattle.texts.proofs.writing.Writer.labelled.Goals as goal

pub returns : goal.returns
unfolding labelled
returns c = wrote_then c.bytes.ensures c.number.ensures

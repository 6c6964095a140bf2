use Rattle.texts.proofs.WritingLaws.{wrote_then}
use Rattle.check_text.specs.Verdict.{served_line}
use Rattle.check_text.proofs.verdicts.put_served.Goals as goal

pub returns : goal.returns
unfolding served_line
returns c = wrote_then c.labelled.ensures c.byte.ensures

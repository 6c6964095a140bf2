use Rattle.texts.proofs.WritingLaws.{wrote_then}
use Rattle.charges_text.specs.Layout.{paid_line}
use Rattle.charges_text.proofs.layout.put_paid.Goals as goal

pub returns : goal.returns
unfolding paid_line
returns c = wrote_then c.byte.ensures (wrote_then c.long.ensures c.byte-2.ensures)

use Rattle.plan_text.specs.Layout.{counts_line}
use Rattle.texts.proofs.WritingLaws.{wrote_then}
use Rattle.plan_text.proofs.layout.put_counts_line.Goals as goal

pub returns : goal.returns
unfolding counts_line
returns c =
    wrote_then c.labelled.ensures
    (wrote_then c.labelled-2.ensures
    (wrote_then c.labelled-3.ensures
    (wrote_then c.bytes.ensures (wrote_then c.put_part.ensures (wrote_then c.labelled-4.ensures c.byte.ensures)))))

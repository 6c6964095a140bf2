use Rattle.texts.proofs.WritingLaws.{wrote_then}
use Rattle.check_text.specs.Verdict.{refusal_line}
use Rattle.check_text.proofs.verdicts.put_refusal.Goals as goal

pub returns : goal.returns
unfolding refusal_line
returns c =
    rw (← c.number.ensures, ← c.carried.ensures)
    (wrote_then c.labelled.ensures (wrote_then c.put_carried.ensures c.byte.ensures))

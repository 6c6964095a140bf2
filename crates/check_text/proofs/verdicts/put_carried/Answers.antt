use native.Mathlib.Omega.{arith}
use Rattle.texts.proofs.WritingLaws.{wrote_none, wrote_then}
use Rattle.check_text.proofs.verdicts.put_carried.Goals as goal

pub returns-in-None : goal.returns-in-None
returns-in-None c = rw c.in-None.is (wrote_none c.args.writer.now (omega arith))

pub returns-in-Two : goal.returns-in-Two
returns-in-Two c = rw c.in-Two.is (wrote_then c.labelled-in-Two.ensures c.labelled-in-Two-2.ensures)

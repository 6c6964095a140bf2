use Rattle.texts.proofs.WritingLaws.{wrote_then}
use Rattle.plan_text.proofs.layout.put_fate.Goals as goal

pub returns-in-Served : goal.returns-in-Served
returns-in-Served c = rw c.in-Served.is (wrote_then c.way.ensures c.byte.ensures)

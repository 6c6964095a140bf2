use Rattle.texts.specs.Bytes.{bytes}
use Rattle.texts.proofs.WritingLaws.{wrote_then}
use Rattle.charges_text.proofs.LineLaws.{paid_behind}
use Rattle.charges_text.proofs.layout.put_charges.Goals as goal

pub returns : goal.returns
returns c =
    rw (← c.charges.ensures, ← paid_behind (bytes "total") c.charges.result)
    (wrote_then c.put_orders.ensures.wrote (wrote_then c.bytes.ensures c.put_paid.ensures))

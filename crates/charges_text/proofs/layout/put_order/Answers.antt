use Rattle.texts.specs.Decimal.{decimal}
use Rattle.texts.proofs.WritingLaws.{wrote_then}
use Rattle.charges_text.proofs.LineLaws.{paid_behind}
use Rattle.charges_text.proofs.layout.put_order.Goals as goal

pub returns : goal.returns
returns c =
    rw (← paid_behind (decimal c.args.circuit.now.serial) _, ← c.charge.ensures.exact)
    (wrote_then c.number.ensures c.put_paid.ensures)

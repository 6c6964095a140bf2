use Rattle.export.proofs.CallLaws.{loaded_valid}
use Rattle.export.proofs.charging.charge.Goals as goal

pub charge_in-requires : goal.charge_in-requires
charge_in-requires c = loaded_valid _ c.load.ensures c.in_ok-load.was

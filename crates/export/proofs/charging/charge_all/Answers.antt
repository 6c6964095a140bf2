use Rattle.export.proofs.CallLaws.{loaded_valid}
use Rattle.export.proofs.charging.charge_all.Goals as goal

pub charge_all_in-requires : goal.charge_all_in-requires
charge_all_in-requires c = loaded_valid _ c.load.ensures c.in_ok-load.was

use Rattle.export.proofs.CallLaws.{loaded_valid}
use Rattle.export.proofs.changes.grant.Goals as goal

pub grant_in-requires : goal.grant_in-requires
grant_in-requires c = loaded_valid _ c.load_front.ensures c.in_ok-book.was

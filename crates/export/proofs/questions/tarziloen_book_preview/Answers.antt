use Rattle.export.proofs.CallLaws.{loaded_valid}
use Rattle.export.proofs.questions.tarziloen_book_preview.Goals as goal

pub preview_in-requires : goal.preview_in-requires
preview_in-requires c = loaded_valid _ c.load.ensures c.in-Ok.is

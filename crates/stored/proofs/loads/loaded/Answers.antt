use Rattle.std.proofs.Common.{sym, ◌∙◌, ap}
use Rattle.std.specs.Result.{result_unwrap_or}
use Rattle.stored.specs.Loading.{Loaded}
use Rattle.stored.proofs.LoadLaws.{loading_book}
use Rattle.stored.proofs.loads.loaded.Goals as goal

pub returns : goal.returns
returns c =
    c.unwrap_or.ensures
    ∙ ap (result_unwrap_or c.load.result) c.blank.ensures
    ∙ loading_book c.load.result
    ∙ ap (λ (l : Loaded). l.book) c.load.ensures

-- What was admitted is a ring of at most 256 nodes with valid requests.
use Rattle.std.proofs.Common.{sym, ◌∙◌}
use Rattle.planner.proofs.ChoiceLaws.{made_fits}
use Rattle.cases_run.proofs.answers.show_start.Goals as goal

pub start_size-requires : goal.start_size-requires
start_size-requires g c =
    let fits = made_fits _ _ _ _ _ (sym c.call_answer.ensures ∙ c.in-Ok.is) in
    (fits.ring.nodes_to, fits.list.valid)

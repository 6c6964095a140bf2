use Rattle.book.specs.Crews.{crew_verdict}
use Rattle.book.proofs.crews.crew_verdict.Goals as goal

pub returns : goal.returns
unfolding crew_verdict
returns c = c.refuse_if.ensures

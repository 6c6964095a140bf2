use Rattle.std.proofs.Common.{rules}
use Rattle.ring.specs.Admission.{count_verdict}
use Rattle.ring.proofs.requests.count_verdict.Goals as goal

pub returns : goal.returns
unfolding count_verdict
returns c = search rules

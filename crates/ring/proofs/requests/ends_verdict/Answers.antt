use Rattle.std.proofs.Common.{rules}
use Rattle.ring.specs.Admission.{ends_verdict}
use Rattle.ring.proofs.requests.ends_verdict.Goals as goal

pub returns : goal.returns
unfolding ends_verdict
returns c = search rules

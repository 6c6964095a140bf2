use Rattle.std.proofs.Common.{rules}
use Rattle.bundles.specs.Previews.{size_verdict}
use Rattle.bundles.proofs.previews.size_verdict.Goals as goal

pub returns : goal.returns
unfolding size_verdict
returns c = search rules

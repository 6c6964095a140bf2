use mathlib.Core.Path.{◌∙◌}
use Rattle.ring.proofs.RoutingLaws.{shorter_by_ends}
use Rattle.ring.proofs.ways.shorter_way.Goals as goal

pub returns : goal.returns
returns c =
    c.seam_if.ensures ∙ shorter_by_ends c.args.n c.args.r c.requires.0 c.requires.1

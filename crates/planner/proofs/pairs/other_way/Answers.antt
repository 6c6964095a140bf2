use mathlib.Core.Path.{ap, ◌∙◌}
use Rattle.ring.specs.Routing.{seam_if}
use Rattle.planner.proofs.pairs.other_way.Goals as goal

pub returns : goal.returns
returns c = c.seam_if.ensures ∙ ap seam_if c.ways_share.ensures

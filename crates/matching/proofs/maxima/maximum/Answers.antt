use mathlib.Core.Path.{refl, ◌∙◌}
use Rattle.matching.proofs.SettledLaws.{maximum_reached}
use Rattle.matching.proofs.maxima.maximum.Goals as goal

pub prefixes-requires : goal.prefixes-requires
prefixes-requires c = (c.requires, refl)

pub new-graph-requires : goal.new-graph-requires
new-graph-requires c = (c.requires, c.prefixes.ensures)

pub returns : goal.returns
returns c =
    let found = c.search_from.ensures in
    rw (← c.new-graph.ensures) (maximum_reached _ _ found.0 (found.1 ∙ c.new-graph.result.counted))

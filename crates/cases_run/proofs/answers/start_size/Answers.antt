-- The requests are valid on 256 nodes too, which a graph asks.
use mathlib.Core.Path.{refl}
use Rattle.ring.proofs.RequestLaws.{valid_on_256}
use Rattle.cases_run.proofs.answers.start_size.Goals as goal

pub prefixes-requires : goal.prefixes-requires
prefixes-requires c = (valid_on_256 _ _ c.requires.0 c.requires.1, refl)

pub new-requires : goal.new-requires
new-requires c = (valid_on_256 _ _ c.requires.0 c.requires.1, c.prefixes.ensures)

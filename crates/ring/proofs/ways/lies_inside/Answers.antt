use Rattle.std.proofs.Common.{rules}
use Rattle.ring.specs.Chords.{inside}
use Rattle.ring.proofs.ways.lies_inside.Goals as goal

pub returns-then-r-x : goal.returns-then-r-x
unfolding inside
returns-then-r-x c = search rules

pub returns-else-r-x : goal.returns-else-r-x
unfolding inside
returns-else-r-x c = search rules

use Rattle.std.proofs.Common.{rules}
use Rattle.ring.specs.Ways.{uses}
use Rattle.ring.proofs.ways.uses.Goals as goal

pub returns-in-Plain : goal.returns-in-Plain
unfolding uses
returns-in-Plain c = search rules

pub returns-in-Seam : goal.returns-in-Seam
unfolding uses
returns-in-Seam c = search rules

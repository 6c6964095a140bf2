use Rattle.std.proofs.Common.{rules}
use Rattle.ring.specs.Internal.Sharing.{sharing}
use Rattle.ring.proofs.ways.plain_shares.Goals as goal

pub returns-in-Plain : goal.returns-in-Plain
unfolding sharing
returns-in-Plain c = search rules

pub returns-in-Seam : goal.returns-in-Seam
unfolding sharing
returns-in-Seam c = search rules

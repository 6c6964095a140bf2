use Rattle.std.proofs.Common.{eq-eqb, ne_eqb}
use Rattle.book.specs.Internal.Conflicts.{conflicts}
use Rattle.book.proofs.circuits.Circuit.conflicts.Goals as goal

pub returns-then-self-colour : goal.returns-then-self-colour
unfolding conflicts
returns-then-self-colour c = simp (c.ways_share.ensures, c.ends.ensures, eq-eqb _ _ c.if-self-colour.true)

pub returns-else-self-colour : goal.returns-else-self-colour
unfolding conflicts
returns-else-self-colour c = simp (ne_eqb _ _ c.if-self-colour.false)

use Rattle.std.proofs.Common.{eq-eqb, ne_eqb}
use Rattle.book.specs.Circuits.{holds}
use Rattle.book.proofs.circuits.Circuit.holds.Goals as goal

pub returns-then-self-colour : goal.returns-then-self-colour
unfolding holds
returns-then-self-colour c = simp (c.uses.ensures, c.ends.ensures, eq-eqb _ _ c.if-self-colour.true)

pub returns-else-self-colour : goal.returns-else-self-colour
unfolding holds
returns-else-self-colour c = simp (ne_eqb _ _ c.if-self-colour.false)

use mathlib.Core.Path.{ap, sym, ◌∙◌}
use borrow.Author.Tests.{ne_eqb}
use Rattle.ring.specs.Internal.Sharing.{sharing}
use Rattle.checker.proofs.ConflictLaws.{blocked_apart, colours_apart, colours_same}
use Rattle.checker.proofs.Plan.in_conflict.Goals as goal

pub returns-in_default : goal.returns-in_default
returns-in_default c = blocked_apart _ _ _ _ _ _ (sym c.in_default.ensures)

pub returns-then-colour-other_colour : goal.returns-then-colour-other_colour
returns-then-colour-other_colour c =
    c.ways_share.ensures
    ∙ ap (sharing _ _ _) c.request_at.ensures
    ∙ colours_same _ _ _ _ _ _ _ _ (sym c.in-Served.ensures) c.if-colour-other_colour.true

pub returns-else-colour-other_colour : goal.returns-else-colour-other_colour
returns-else-colour-other_colour c =
    ne_eqb _ _ c.if-colour-other_colour.false ∙ colours_apart _ _ _ _ _ _ _ _ (sym c.in-Served.ensures) c.if-colour-other_colour.false

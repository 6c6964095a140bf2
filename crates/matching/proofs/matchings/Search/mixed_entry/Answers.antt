-- By whether the two rows agree, and by `below`.
use mathlib.Core.Path.{sym, ◌∙◌}
use Rattle.matching.proofs.RowLaws.{mixed_same, mixed_inner, mixed_outer}
use Rattle.matching.proofs.matchings.Search.mixed_entry.Goals as goal

pub returns-then-inner-outer : goal.returns-then-inner-outer
returns-then-inner-outer c = mixed_same _ _ _ _ _ _ _ c.if-inner-outer.true

pub returns-then-below : goal.returns-then-below
returns-then-below c = mixed_inner _ _ _ _ _ _ _ (sym c.below.ensures ∙ c.if-below.true)

pub returns-else-below : goal.returns-else-below
returns-else-below c = mixed_outer _ _ _ _ _ _ _ (sym c.below.ensures ∙ c.if-below.false)

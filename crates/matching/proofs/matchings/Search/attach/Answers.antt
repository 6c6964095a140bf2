use mathlib.Core.Path.{refl, sym, ◌∙◌}
use native.Mathlib.Omega.{arith}
use Rattle.matching.specs.Internal.Steps.{enlarges, grows}
use Rattle.matching.proofs.matchings.Search.attach.Goals as goal

pub returns-then-c-y : goal.returns-then-c-y
returns-then-c-y c = enlarges (sym c.from-c.ensures ∙ c.if-c-y.true) refl c.enlarge.ensures refl

pub grow-requires : goal.grow-requires
grow-requires c =
    let p = c.requires in
    (p.from, p.to, omega (arith, p.mate, c.from-c.ensures), p.room (λ e. c.if-c-y.false (c.from-c.ensures ∙ e)))

pub returns : goal.returns
returns c = grows c.from-c.result c.from-c.ensures c.if-c-y.false refl c.grow.ensures c.grow_row.ensures

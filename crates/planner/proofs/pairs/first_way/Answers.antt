use mathlib.Core.Path.{sym, ap, ◌∙◌}
use Rattle.ring.specs.Routing.{seam_if, twins}
use Rattle.ring.proofs.RoutingLaws.{twin_first, other_first}
use Rattle.planner.proofs.pairs.first_way.Goals as goal

pub returns-then-eq : goal.returns-then-eq
unfolding twins
returns-then-eq c =
    c.shorter_way.ensures ∙ sym (twin_first c.args.n c.args.r c.args.s (sym c.eq.ensures ∙ c.if-eq.true))

pub returns : goal.returns
unfolding twins
returns c =
    c.seam_if.ensures
    ∙ (ap seam_if c.end_inside.ensures
    ∙ sym (other_first c.args.n c.args.r c.args.s (sym c.eq.ensures ∙ c.if-eq.false)))

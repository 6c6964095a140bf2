use Prim.Native.Nat.{◌+◌}
use mathlib.Core.Path.{refl, sym, ap, ◌∙◌}
use native.Mathlib.Omega.{arith}
use lib.ListN.{set}
use Rattle.matching.specs.declared.labels.VertexLabel.TheVariants as kind
use Rattle.matching.specs.declared.matchings.Search.{Search}
use Rattle.matching.specs.Internal.Steps.{with_queue}
use Rattle.matching.proofs.MembersLaws.{walking_begins, walking_next, walking_ends}
use Rattle.matching.proofs.PromoteLaws.{promoted_none, promoted_skip, promoted_room, promoted_take, promoted_next, promoted_all, on_true, on_false}
use Rattle.matching.proofs.matchings.Search.promote.Goals as goal

pub loop-z-init : goal.loop-z-init
loop-z-init c =
    let walk = c.members-z-items.ensures in
    rw c.into_iter-z-iterator.ensures.into_iter_gives (walking_begins walk, rw walk.1 (promoted_none _ _ _ _ _), refl)

pub offset_bounds-self-self : goal.offset_bounds-self-self
offset_bounds-self-self c =
    let next = (walking_next c.loop-z.invariant.0 _ c.next.new.self c.in-Some.ensures.steps).0 in
    let P = promoted_next c.loop-z.invariant.0 c.loop-z.invariant.1 c.requires.2 next in
    omega (arith, promoted_room _ _ _ _ _ _ _ _ _ P next.most (on_true _ (sym c.is_on.ensures ∙ c.if-is_on.true)) c.requires.1)

pub bounds-self-self : goal.bounds-self-self
bounds-self-self c =
    let next = (walking_next c.loop-z.invariant.0 _ c.next.new.self c.in-Some.ensures.steps).0 in
    let P = promoted_next c.loop-z.invariant.0 c.loop-z.invariant.1 c.requires.2 next in
    promoted_room _ _ _ _ _ _ _ _ _ P next.most (on_true _ (sym c.is_on.ensures ∙ c.if-is_on.true)) c.requires.1

pub overflow_add-self : goal.overflow_add-self
overflow_add-self c =
    let next = (walking_next c.loop-z.invariant.0 _ c.next.new.self c.in-Some.ensures.steps).0 in
    let P = promoted_next c.loop-z.invariant.0 c.loop-z.invariant.1 c.requires.2 next in
    omega (arith, promoted_room _ _ _ _ _ _ _ _ _ P next.most (on_true _ (sym c.is_on.ensures ∙ c.if-is_on.true)) c.requires.1)

pub loop-z-preserved-then-is_on : goal.loop-z-preserved-then-is_on
loop-z-preserved-then-is_on c =
    let t = c.loop-z.self in
    let walk = walking_next c.loop-z.invariant.0 _ c.next.new.self c.in-Some.ensures.steps in
    let P = promoted_next c.loop-z.invariant.0 c.loop-z.invariant.1 c.requires.2 walk.0 in
    let room = promoted_room _ _ _ _ _ _ _ _ _ P walk.0.most (on_true _ (sym c.is_on.ensures ∙ c.if-is_on.true)) c.requires.1 in (
      walk.2,
      rw walk.1
          (promoted_take _ _ _ _ _ _ _ _ _ P walk.0.most (on_true _ (sym c.is_on.ensures ∙ c.if-is_on.true))
          (omega (arith, P.labels_length, walk.0.most, c.requires.0))
          (omega (arith, P.queue_length))),
      ap (λ (u : Search). with_queue u (set t.labels c.in-Some.z kind.Even) (set t.queue t.clock c.in-Some.z) (t.clock + 1))
          c.loop-z.invariant.2,
    )

pub loop-z-preserved : goal.loop-z-preserved
loop-z-preserved c =
    let walk = walking_next c.loop-z.invariant.0 _ c.next.new.self c.in-Some.ensures.steps in
    let P = promoted_next c.loop-z.invariant.0 c.loop-z.invariant.1 c.requires.2 walk.0 in
    (walk.2, rw walk.1 (promoted_skip _ _ _ _ _ _ _ _ _ P walk.0.most (on_false _ (sym c.is_on.ensures ∙ c.if-is_on.false))), c.loop-z.invariant.2)

pub returns : goal.returns
returns c =
    let inv = c.loop-z.invariant in
    (promoted_all inv.0 inv.1 c.requires.2 (walking_ends inv.0 _ _ _ c.in-None.ensures.steps), inv.2)

use Prim.Native.Nat.{◌+◌}
use mathlib.Core.Path.{refl, ap}
use lib.ListN.{set}
use Rattle.std.proofs.Common.{rules}
use Rattle.matching.specs.declared.matchings.Search.{Search}
use Rattle.matching.specs.Internal.Bases.{has_below}
use Rattle.matching.specs.Internal.Steps.{with_bases}
use Rattle.matching.proofs.MembersLaws.{walking_begins, walking_next, walking_ends}
use Rattle.matching.proofs.BaseLaws.{rebased_none, rebased_one, rebased_more, rebased_alike, below_zero, below_step, below_end}
use Rattle.matching.proofs.matchings.Search.rebase_cycle.Goals as goal

pub loop-z-init : goal.loop-z-init
loop-z-init c =
    let walk = c.members-z-items.ensures in
    rw c.into_iter-z-iterator.ensures.into_iter_gives (
      walking_begins walk,
      rw walk.1 (rebased_none _ _ _ _ (search rules) (search rules) (below_zero c.args.marks.now.cycle)),
      refl,
    )

pub loop-z-preserved : goal.loop-z-preserved
loop-z-preserved c =
    let inv = c.loop-z.invariant in
    let walk = walking_next inv.0 c.in-Some.z c.next.new.self c.in-Some.ensures.steps in
    let one = rebased_one c.args.b c.in-Some.z _ _ _ _ (λ y. refl) inv.1.bases_length (search rules) c.add.ensures.0 c.add.ensures.1 in (
      walk.2,
      rw walk.1 (rebased_more (has_below (c.in-Some.z + 1) c.args.marks.now.cycle) inv.1 one (below_step walk.0)),
      ap (λ (s : Search). with_bases s (set s.bases c.in-Some.z c.args.b)) inv.2,
    )

pub returns : goal.returns
returns c =
    let inv = c.loop-z.invariant in
    let none = below_end _ _ _ (walking_ends inv.0 _ _ _ c.in-None.ensures.steps) inv.0.within in
    (rebased_alike (has_below c.args.m c.args.marks.now.cycle) inv.1 none, inv.2)

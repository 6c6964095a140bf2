use native.Mathlib.Omega.{arith}
use Rattle.matching.proofs.MembersLaws.{walking_begins, walking_next, walking_ends}
use Rattle.matching.proofs.MendLaws.{mending_start, mending_square, mending_skip, mending_turn, mending_end}
use Rattle.matching.proofs.matchings.Search.absorb_row.Goals as goal

pub loop-z-init : goal.loop-z-init
loop-z-init c =
    let walk = c.members-z-items.ensures in
    rw c.into_iter-z-iterator.ensures.into_iter_gives (
      walking_begins walk,
      rw walk.1 (mending_start _ _ _ _ _ _ _ c.requires.1 c.requires.2 c.requires.3 _ _ c.requires.0 c.requires.4 c.copy_row.ensures),
    )

pub mixed_entry-entry-requires : goal.mixed_entry-entry-requires
mixed_entry-entry-requires c =
    let readable = c.requires.1 in
    let next = (walking_next c.loop-z.invariant.0 _ c.next.new.self c.in-Some.ensures.steps).0 in
    let square = mending_square _ _ _ _ _ _ _ readable c.requires.2 c.requires.3 _ _ _ c.loop-z.invariant.1 in (
      record { square = square; few = readable.few; inside = readable.inside; v_inside = c.requires.2; z_inside = next.most },
      readable.x_inside,
      readable.y_inside,
    )

pub loop-z-preserved : goal.loop-z-preserved
loop-z-preserved c =
    let walk = walking_next c.loop-z.invariant.0 _ c.next.new.self c.in-Some.ensures.steps in
    let here = mending_skip _ _ _ _ _ _ _ c.requires.1 c.requires.2 c.requires.3 _ _ _ c.loop-z.invariant.1 _ walk.0.least
    (omega (arith, walk.0.most)) walk.0.passed in (
      walk.2,
      rw walk.1 (mending_turn _ _ _ _ _ _ _ c.requires.1 c.requires.2 c.requires.3 _ _ _ here _ walk.0.most c.mixed_entry-entry.ensures),
    )

pub returns : goal.returns
returns c =
    let inv = c.loop-z.invariant in
    let all = mending_skip _ _ _ _ _ _ _ c.requires.1 c.requires.2 c.requires.3 _ _ _ inv.1 _ inv.0.within (omega arith)
    (walking_ends inv.0 _ _ _ c.in-None.ensures.steps) in
    mending_end _ _ _ _ _ _ _ c.requires.1 c.requires.2 c.requires.3 _ _ _ all _ _ _ (omega arith) c.copy_row.ensures c.pair_in_row.ensures

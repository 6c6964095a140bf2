use native.Mathlib.Omega.{arith}
use Rattle.matching.proofs.RowLaws.{readable_turned}
use Rattle.matching.proofs.AbsorbLaws.{absorb_start, absorb_skip, absorb_turn, absorb_end}
use Rattle.matching.proofs.MembersLaws.{walking_begins, walking_next, walking_ends}
use Rattle.matching.proofs.MendLaws.{same_unmixed}
use Rattle.matching.proofs.matchings.Search.absorb.Goals as goal

pub loop-v-init : goal.loop-v-init
loop-v-init c =
    let walk = c.members-v-items.ensures in
    rw c.into_iter-v-iterator.ensures.into_iter_gives (
      walking_begins walk,
      rw walk.1 (absorb_start _ _ _ _ _ _ _ c.requires.0),
    )

pub absorb_vertex-requires : goal.absorb_vertex-requires
absorb_vertex-requires c =
    let next = (walking_next c.loop-v.invariant.0 _ c.next.new.self c.in-Some.ensures.steps).0 in
    let H = c.loop-v.invariant.1 in
    let sparse = c.requires.3 in
    let readable = c.requires.1 in (
      H.square,
      readable,
      next.most,
      c.requires.2 _ next.most,
      λ e. same_unmixed _ _ _ _ _ H.kept _ _ _ _ readable (sparse.first _ next.most e),
      λ e. same_unmixed _ _ _ _ _ H.kept _ _ _ _ (readable_turned readable) (sparse.second _ next.most e),
    )

pub loop-v-preserved : goal.loop-v-preserved
loop-v-preserved c =
    let walk = walking_next c.loop-v.invariant.0 _ c.next.new.self c.in-Some.ensures.steps in
    let here = absorb_skip _ _ _ _ _ _ _ c.args.marks.now.cycle _ _ _ c.requires.3.covered (omega (arith, walk.0.most)) walk.0.passed
    c.loop-v.invariant.1 in (
      walk.2,
      rw walk.1 (absorb_turn _ _ _ _ _ _ _ _ _ _ c.requires.1 c.requires.2 walk.0.most here c.absorb_vertex.ensures),
    )

pub returns : goal.returns
returns c =
    let inv = c.loop-v.invariant in
    let all = absorb_skip _ _ _ _ _ _ _ c.args.marks.now.cycle _ _ _ c.requires.3.covered (omega arith)
    (walking_ends inv.0 _ _ _ c.in-None.ensures.steps) inv.1 in
    (all.square, absorb_end _ _ _ _ _ _ _ _ _ (omega arith) all)

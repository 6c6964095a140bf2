use mathlib.Core.Path.{sym, ◌∙◌}
use native.Mathlib.Omega.{arith}
use Rattle.matching.proofs.AdjacencyLaws.{adjacent_symmetric}
use Rattle.matching.proofs.StandingLaws.{clock_most}
use Rattle.matching.proofs.WalkLaws.{scan_inside}
use Rattle.matching.proofs.ScanLaws.{queued_inside, scan_starts, scan_over, scan_reached, scan_enlarges, scan_goes_on, scan_ends}
use Rattle.matching.proofs.matchings.Search.scan.Goals as goal
use Rattle.matching.proofs.matchings.Search.scan.Goals.{else-is_apart-via-then-is_apart+else-step, else-is_apart-via-else-is_apart}

pub offset_bounds-self-h : goal.offset_bounds-self-h
offset_bounds-self-h c =
    let S = c.requires.0.1 in omega (arith, c.requires.1, S.standing.sized.few, clock_most _ _ _ _ S.standing.stands)

pub bounds-self-h : goal.bounds-self-h
bounds-self-h c =
    let S = c.requires.0.1 in omega (arith, c.requires.1, S.standing.sized.few, clock_most _ _ _ _ S.standing.stands)

pub neighbours-requires : goal.neighbours-requires
neighbours-requires c =
    let p = c.requires in
    rw (c.from-x.ensures, c.args.graph.now.counted)
    (queued_inside _ (adjacent_symmetric c.args.graph.now.ends.now) _ _ _ _ p.0.1 _ p.1)

pub loop-y-init : goal.loop-y-init
loop-y-init c =
    let walk = c.members-y-items.ensures in
    rw (c.into_iter-y-iterator.ensures.into_iter_gives, walk.0, walk.1, walk.2) (
      λ r S. record {
        at = scan_starts _ (adjacent_symmetric c.args.graph.now.ends.now) _ _ _ _ S c.requires.1 _ c.from-x.ensures;
        neighbours = c.neighbours.ensures;
        most = omega arith;
      },
      c.args.graph.now.counted ∙ sym c.args.graph.now.counted,
    )

pub is_apart-requires : goal.is_apart-requires
is_apart-requires c =
    let graph = c.args.graph.now in
    let (scanned, end) = c.loop-y.invariant in
    let S = scanned _ c.requires.0.1 in
    let inside = scan_inside _ (adjacent_symmetric graph.ends.now) _ _ _ _ _ _ S.at in
    (omega (arith, inside, graph.valid.few), omega (arith, c.in-Some.ensures.steps.came.0.most, end, graph.counted, graph.valid.few))

pub step-requires : goal.step-requires
step-requires c =
    let graph = c.args.graph.now in
    let (scanned, end) = c.loop-y.invariant in
    let next = rw end at c.in-Some.ensures.steps.came.0 in
    let reached = scan_reached graph.ends.now _ _ _ _ _ _ _ (scanned _ c.requires.0.1) _ _ graph.counted next
    (sym c.is_apart.ensures ∙ c.if-is_apart.true) in
    ((graph.ends.now, _, _, reached.0), reached.1)

pub returns-then-step : goal.returns-then-step
returns-then-step c = λ r S.
    let graph = c.args.graph.now in
    let (scanned, end) = c.loop-y.invariant in
    let next = rw end at c.in-Some.ensures.steps.came.0 in
    scan_enlarges graph.ends.now _ _ _ _ _ _ _ (scanned r S) _ _ graph.counted next
    (sym c.is_apart.ensures ∙ c.if-is_apart.true) _ _ _ c.step.ensures c.if-step.true

pub loop-y-preserved : goal.loop-y-preserved
loop-y-preserved c =
    let graph = c.args.graph.now in
    let (scanned, end) = c.loop-y.invariant in
    let step = c.in-Some.ensures.steps in
    let next = rw end at step.came.0 in
    elim c.else-is_apart.branch [
      | else-is_apart-via-then-is_apart+else-step w ↦ (
        λ r S. rw (w.self-is, w.rows-is, step.words_kept, step.came.1)
            (scan_goes_on graph.ends.now _ _ _ _ _ _ _ (scanned r S) _ _ graph.counted next
            (sym c.is_apart.ensures ∙ w.if-is_apart.true) _ _ _ w.step.ensures w.if-step.false),
        step.end_kept ∙ end,
      )
      | else-is_apart-via-else-is_apart w ↦ (
        λ r S. rw (w.self-is, w.rows-is, step.words_kept, step.came.1)
            (scan_over graph.ends.now _ _ _ _ _ _ _ (scanned r S) _ _ graph.counted next (sym c.is_apart.ensures ∙ w.if-is_apart.false)),
        step.end_kept ∙ end,
      )
    ]

pub returns : goal.returns
returns c = λ r S.
    let graph = c.args.graph.now in
    let (scanned, end) = c.loop-y.invariant in
    let none = rw end at c.in-None.ensures.steps.came.0 in
    scan_ends graph.ends.now _ _ _ _ _ _ _ (scanned r S) _ graph.counted none

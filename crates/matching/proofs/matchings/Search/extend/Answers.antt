use Rattle.std.proofs.Common.{rules, sym, ◌∙◌}
use native.Mathlib.Omega.{arith}
use denote.Enum.Bare.{same_true}
use Rattle.matching.specs.contracts.labels.VertexLabel.{the_type}
use Rattle.ring.proofs.Cases.{impossible}
use Rattle.matching.proofs.AdjacencyLaws.{adjacent_symmetric}
use Rattle.matching.proofs.StandingLaws.{clock_most}
use Rattle.matching.proofs.OutcomeLaws.{outcome_enlarged}
use Rattle.matching.proofs.ScanLaws.{queued_inside}
use Rattle.matching.proofs.ExtendLaws.{extending_attachable, extending_attached, extending_grown}
use Rattle.matching.proofs.matchings.Search.extend.Goals as goal
use Rattle.matching.proofs.matchings.Search.extend.Goals.{else-eq-via-then-eq+else-attach, else-eq-via-else-eq}

pub offset_bounds-self-g : goal.offset_bounds-self-g
offset_bounds-self-g c =
    let S = c.requires.0.1.1 in omega (arith, c.requires.1, S.standing.sized.few, clock_most _ _ _ _ S.standing.stands)

pub bounds-self-g : goal.bounds-self-g
bounds-self-g c =
    let S = c.requires.0.1.1 in omega (arith, c.requires.1, S.standing.sized.few, clock_most _ _ _ _ S.standing.stands)

pub neighbours-requires : goal.neighbours-requires
neighbours-requires c =
    let p = c.requires in
    rw (c.from-x.ensures, c.args.graph.now.counted)
    (queued_inside _ (adjacent_symmetric c.args.graph.now.ends.now) _ _ _ _ p.0.1.1 _ p.1)

pub attach-requires : goal.attach-requires
attach-requires c =
    let graph = c.args.graph.now in
    let (extending, end) = c.loop-y.invariant in
    let at = c.in-Some.ensures.steps.came.0 in
    let free = same_true the_type (search rules) _ _ (sym c.eq.ensures ∙ c.if-eq.true) in
    extending_attachable _ (adjacent_symmetric graph.ends.now) _ _ _ _ _ _ _ (extending _ _ c.requires.0.1.1) _
    (omega (arith, at.most, end, graph.counted)) at.member free

pub returns-then-attach : goal.returns-then-attach
returns-then-attach c = λ h r S.
    let graph = c.args.graph.now in
    let (extending, end) = c.loop-y.invariant in
    let at = c.in-Some.ensures.steps.came.0 in
    let free = same_true the_type (search rules) _ _ (sym c.eq.ensures ∙ c.if-eq.true) in
    outcome_enlarged
    (extending_attached _ (adjacent_symmetric graph.ends.now) _ _ _ _ _ _ _ (extending r h S) _
    (omega (arith, at.most, end, graph.counted)) at.member free _ _ _ c.attach.ensures)
    c.if-attach.true

pub loop-y-preserved : goal.loop-y-preserved
loop-y-preserved c =
    let graph = c.args.graph.now in
    let (extending, end) = c.loop-y.invariant in
    let step = c.in-Some.ensures.steps in
    let at = step.came.0 in
    elim c.else-eq.branch [
      | else-eq-via-then-eq+else-attach w ↦ (
        λ r h S.
            let free = same_true the_type (search rules) _ _ (sym c.eq.ensures ∙ w.if-eq.true) in
            rw (w.self-is, w.rows-is, step.words_kept)
            (extending_grown _ (adjacent_symmetric graph.ends.now) _ _ _ _ _ _ _ (extending r h S) _
            (omega (arith, at.most, end, graph.counted)) at.member free _ _ _ w.attach.ensures w.if-attach.false),
        step.end_kept ∙ end,
      )
      | else-eq-via-else-eq w ↦ (λ r h S. rw (w.self-is, w.rows-is, step.words_kept) (extending r h S), step.end_kept ∙ end)
    ]

pub returns : goal.returns
returns c = λ h r S.
    let now = (c.loop-y.invariant.0 r h S).search in
    record { square = now.standing.square; enlarged = λ d. impossible (sym d); going = λ d. now }

use mathlib.Core.Path.{◌∙◌}
use native.Mathlib.Omega.{arith}
use Rattle.matching.proofs.AloneLaws.{alone_not, alone_none, alone_turn, alone_over}
use Rattle.matching.proofs.roots.alone.Goals as goal

pub loop-z-init : goal.loop-z-init
loop-z-init c =
    let walk = c.members-z-items.ensures in
    rw c.into_iter-z-iterator.ensures.into_iter_gives (rw walk.0 c.neighbours.ensures, walk.2, λ z h. absurd (omega (arith, h, walk.1)))

pub returns-then-z-r : goal.returns-then-z-r
returns-then-z-r c =
    let graph = c.args.graph.now in
    let (around, end, _) = c.loop-z.invariant in
    let at = c.in-Some.ensures.steps.came.0 in
    alone_not _ _ _ around (omega (arith, c.requires, graph.counted)) _ (omega (arith, at.most, end, graph.counted)) at.member c.if-z-r.true

pub loop-z-preserved : goal.loop-z-preserved
loop-z-preserved c =
    let (around, end, before) = c.loop-z.invariant in
    let step = c.in-Some.ensures.steps in (
      rw step.words_kept around,
      step.end_kept ∙ end,
      rw (step.words_kept, step.came.1) (alone_turn _ _ _ _ _ before step.came.0 c.if-z-r.false),
    )

pub returns : goal.returns
returns c =
    let graph = c.args.graph.now in
    let (around, end, before) = c.loop-z.invariant in
    let none = c.in-None.ensures.steps.came.0 in
    alone_none _ _ _ around (λ z h. alone_over _ _ _ _ before none z (omega (arith, h, end, graph.counted)))

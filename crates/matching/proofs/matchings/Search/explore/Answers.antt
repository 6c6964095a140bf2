use native.Mathlib.Omega.{arith}
use Rattle.matching.proofs.StandingLaws.{clock_most}
use Rattle.matching.proofs.OutcomeLaws.{outcome_enlarged, outcome_scanned}
use Rattle.matching.proofs.matchings.Search.explore.Goals as goal

pub loop-h-init : goal.loop-h-init
loop-h-init c = λ r at. at

pub extend-requires : goal.extend-requires
extend-requires c = ((_, (_, c.loop-h.invariant _ c.requires.1)), c.if-g-self.true)

pub returns-then-extend : goal.returns-then-extend
returns-then-extend c = λ r at. outcome_enlarged (c.extend.ensures _ r (c.loop-h.invariant r at)) c.if-extend.true

pub overflow_add-g : goal.overflow_add-g
overflow_add-g c =
    let at = c.loop-h.invariant _ c.requires.1 in
    omega (arith, c.if-g-self.true, at.standing.sized.few, clock_most _ _ _ _ at.standing.stands)

pub loop-h-smaller-then-g-self : goal.loop-h-smaller-then-g-self
loop-h-smaller-then-g-self c =
    let at = c.loop-h.invariant _ c.requires.1 in
    omega (arith, c.if-g-self.true, c.args.graph.now.counted, clock_most _ _ _ _ at.standing.stands)

pub loop-h-preserved-then-g-self : goal.loop-h-preserved-then-g-self
loop-h-preserved-then-g-self c = λ r at. (c.extend.ensures _ r (c.loop-h.invariant r at)).going c.if-extend.false

pub scan-requires : goal.scan-requires
scan-requires c = ((_, c.loop-h.invariant _ c.requires.1), c.loop-h-test.true)

pub returns-then-scan : goal.returns-then-scan
returns-then-scan c = λ r at. outcome_enlarged (c.scan.ensures r (c.loop-h.invariant r at)) c.if-scan.true

pub overflow_add-h : goal.overflow_add-h
overflow_add-h c =
    let at = c.loop-h.invariant _ c.requires.1 in
    omega (arith, c.loop-h-test.true, at.standing.sized.few, clock_most _ _ _ _ at.standing.stands)

pub loop-h-smaller : goal.loop-h-smaller
loop-h-smaller c =
    let at = c.loop-h.invariant _ c.requires.1 in
    omega (arith, c.loop-h-test.true, c.args.graph.now.counted, clock_most _ _ _ _ at.standing.stands)

pub loop-h-preserved : goal.loop-h-preserved
loop-h-preserved c = λ r at. (c.scan.ensures r (c.loop-h.invariant r at)).going c.if-scan.false

pub returns : goal.returns
returns c = λ r at. outcome_scanned (c.loop-h.invariant r at) (omega (arith, c.loop-h-test.false))

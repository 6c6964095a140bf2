use mathlib.Core.Path.{sym, ◌∙◌}
use native.Mathlib.Omega.{arith}
use Rattle.std.proofs.Common.{rules}
use Rattle.matching.proofs.ClimbLaws.{climb_base, climb_mate, climb_parent, climb_short, marked_start, marked_turn}
use Rattle.matching.proofs.matchings.Search.climb.Goals as goal

pub loop-side-init : goal.loop-side-init
loop-side-init c = marked_start c.from-b.ensures (search rules) (search rules) (search rules)

pub goes_on-requires : goal.goes_on-requires
goes_on-requires c = (
  c.requires.against,
  climb_base c.requires c.loop-side.invariant,
  climb_mate c.requires c.loop-side.invariant,
)

pub offset_bounds-self-b : goal.offset_bounds-self-b
offset_bounds-self-b c = omega (arith, climb_base c.requires c.loop-side.invariant)

pub bounds-self-b : goal.bounds-self-b
bounds-self-b c = climb_base c.requires c.loop-side.invariant

pub bounds-marks-o : goal.bounds-marks-o
bounds-marks-o c = omega (arith, c.from-o.ensures, climb_mate c.requires c.loop-side.invariant)

pub bounds-marks-b : goal.bounds-marks-b
bounds-marks-b c = climb_base c.requires c.loop-side.invariant

pub add-requires : goal.add-requires
add-requires c = omega (arith, c.from-o.ensures, climb_mate c.requires c.loop-side.invariant)

pub above-b-requires : goal.above-b-requires
above-b-requires c =
    let on = sym c.goes_on.ensures ∙ c.loop-side-test.true in
    rw c.from-o.ensures (climb_mate c.requires c.loop-side.invariant, climb_parent c.requires c.loop-side.invariant on)

pub overflow_add-steps : goal.overflow_add-steps
overflow_add-steps c = omega (arith, climb_short c.requires c.loop-side.invariant (sym c.goes_on.ensures ∙ c.loop-side-test.true))

pub loop-side-smaller : goal.loop-side-smaller
loop-side-smaller c = omega (arith, climb_short c.requires c.loop-side.invariant (sym c.goes_on.ensures ∙ c.loop-side-test.true))

pub loop-side-preserved : goal.loop-side-preserved
loop-side-preserved c =
    let base = climb_base c.requires c.loop-side.invariant in
    let mate = climb_mate c.requires c.loop-side.invariant in
    marked_turn c.loop-side.invariant (sym c.goes_on.ensures ∙ c.loop-side-test.true) _ _ _ c.from-o.ensures
    (omega (arith, c.from-o.ensures, mate)) base c.above-b.ensures c.add.ensures.0 c.add.ensures.1

pub returns : goal.returns
returns c = record { steps = _; marked = c.loop-side.invariant; ended = sym c.goes_on.ensures ∙ c.loop-side-test.false }

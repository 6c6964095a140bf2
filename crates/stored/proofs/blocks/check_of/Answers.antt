use Rattle.std.proofs.Common.{◌≡◌, ◌+◌, ◌*◌, ◌%◌, ◌<◌, ◌≤◌, ℕ, take, get_or, sym, ap}
use native.Mathlib.Omega.{arith}
use Rattle.stored.specs.Blocks.{check_of}
use Rattle.stored.proofs.Checks.{weighed_length, term_bound, sum_next, sum_ended}
use Rattle.stored.proofs.blocks.check_of.Goals as goal

pub slice_bounds-weighed-end : goal.slice_bounds-weighed-end
slice_bounds-weighed-end c = sym (weighed_length c.args.block.now c.requires)

within : (c : goal.After-from) → c.loop-i.i < 510
within c = omega (arith, weighed_length c.args.block.now c.requires)

-- each term is at most 255 times 510
term : (c : goal.After-from) → c.from.result * (c.loop-i.i + 1) ≤ 130050
term c = term_bound c.from.result c.loop-i.i (omega arith) (within c)

pub overflow_cast-sum : goal.overflow_cast-sum
overflow_cast-sum c = omega (arith, within c)

pub overflow_add-sum : goal.overflow_add-sum
overflow_add-sum c = omega (arith, within c)

pub overflow_mul-sum : goal.overflow_mul-sum
overflow_mul-sum c = omega (arith, term c)

pub overflow_add-sum-in-loop-i : goal.overflow_add-sum-in-loop-i
overflow_add-sum-in-loop-i c = omega (arith, within c, term c)

pub loop-i-preserved : goal.loop-i-preserved
loop-i-preserved c =
    let weighed = take 510 c.args.block.now in
    let e : c.from.result * (c.loop-i.i + 1) ≡ get_or weighed c.loop-i.i 0 * (c.loop-i.i + 1) =
    ap (λ (y : ℕ). y * (c.loop-i.i + 1)) c.from.ensures in
    (omega (arith, term c), omega (arith, c.loop-i.invariant.1, sum_next weighed c.loop-i.i c.loop-i-test.true))

pub returns : goal.returns
unfolding check_of
returns c =
    let weighed = take 510 c.args.block.now in
    ap (λ (s : ℕ). s % 65521) (omega (arith, c.loop-i.invariant.1, sum_ended weighed c.loop-i.i c.loop-i-test.false))

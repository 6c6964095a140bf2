-- By the label of z.
use mathlib.Core.Path.{sym}
use native.Mathlib.Omega.{arith}
use Rattle.matching.proofs.RowLaws.{below_even, below_self, below_odd, below_none}
use Rattle.matching.proofs.matchings.Search.below.Goals as goal

pub returns-in-Even : goal.returns-in-Even
returns-in-Even c = sym (below_even _ _ _ _ _ c.in-Even.is)

pub returns-then-z-v : goal.returns-then-z-v
returns-then-z-v c = sym (below_self _ _ _ _ _ c.in-Odd.is c.if-z-v.true)

pub offset_bounds-rows-even : goal.offset_bounds-rows-even
offset_bounds-rows-even c = omega (arith, c.from-even.ensures, c.requires.inside c.args.z c.requires.z_inside)

pub returns-else-z-v : goal.returns-else-z-v
returns-else-z-v c = rw c.from-even.ensures (sym (below_odd _ _ _ _ _ c.in-Odd.is c.if-z-v.false))

pub returns-in_default : goal.returns-in_default
returns-in_default c = sym (below_none _ _ _ _ _ c.in_default.not-Even c.in_default.not-Odd)

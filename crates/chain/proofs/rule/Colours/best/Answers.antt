-- The first colour in use with the greatest latest end, or the next colour, is the pick. Assumes nothing.
use Prim.Native.Nat.{ℕ, ◌≤◌}
use mathlib.Core.List.{List}
use mathlib.Core.Path.{ap, ◌∙◌}
use native.Mathlib.Omega.{arith}
use lib.ListN.{length}
use Rattle.chain.specs.Rule.{pick}
use Rattle.chain.proofs.ColoursInUse.{greatest_in, first_in, used_is_pick, unused_is_pick}
use Rattle.chain.proofs.rule.Colours.best.Goals as goal

pub returns-then-top-eq0 : goal.returns-then-top-eq0
returns-then-top-eq0 c =
    let s = c.self.inside in
    let top = c.greatest-top.result in
    let room : s.w ≤ length s.latest = omega (arith, c.self.invariant.0) in
    let part : s.used ≤ length s.latest = omega (arith, c.self.invariant.1.within) in
    c.then_some.ensures
    ∙ unused_is_pick s.latest s.used s.w c.self.invariant.1 c.args.a top room
    (greatest_in s.latest s.used part c.args.a top c.greatest-top.ensures) c.if-top-eq0.true
    ∙ ap (λ (l : List ℕ). pick l c.args.a) c.self.view_is

pub returns : goal.returns
returns c =
    let s = c.self.inside in
    let top = c.greatest-top.result in
    let room : s.w ≤ length s.latest = omega (arith, c.self.invariant.0) in
    let part : s.used ≤ length s.latest = omega (arith, c.self.invariant.1.within) in
    used_is_pick s.latest s.used s.w c.self.invariant.1 c.args.a top room
    (greatest_in s.latest s.used part c.args.a top c.greatest-top.ensures) c.first_with.result c.if-top-eq0.false
    (rw c.first_with.ensures (first_in s.latest s.used part top))
    ∙ ap (λ (l : List ℕ). pick l c.args.a) c.self.view_is

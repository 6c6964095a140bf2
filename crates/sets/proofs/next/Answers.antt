use Prim.Native.Nat.{◌+◌, ◌*◌}
use mathlib.Core.Path.{◌≡◌}
use native.Mathlib.Omega.{arith}
use Rattle.sets.proofs.NextLaws.{masked_start, masked_rest, masked_turn, rest_from, rest_before, rest_found}
use Rattle.sets.proofs.next.Goals as goal

pub loop-k-init : goal.loop-k-init
loop-k-init c = masked_start _ _

pub returns-then-word-ne0 : goal.returns-then-word-ne0
returns-then-word-ne0 c =
    let rest = masked_rest _ _ c.loop-k.k _ c.loop-k.invariant in
    let low = c.lowest.ensures in
    let r = 64 * c.loop-k.k + c.lowest.result in (
      omega (arith, rest_from _ _ _ _ _ rest low.0 low.1 low.2),
      omega arith,
      λ z h l. rest_before _ _ _ _ _ rest low.0 low.1 low.2 z h (omega arith),
      λ h. let e : c.min.result ≡ r = omega arith in
          rw e (rest_found _ _ _ _ _ rest low.0 low.1 low.2),
    )

pub loop-k-preserved : goal.loop-k-preserved
loop-k-preserved c = masked_turn _ _ c.loop-k.k _ c.if-word-ne0.false (masked_rest _ _ c.loop-k.k _ c.loop-k.invariant)

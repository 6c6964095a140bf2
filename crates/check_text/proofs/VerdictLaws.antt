-- The length of what a refusal carries.
use Prim.Native.Nat.{◌≤◌}
use native.Mathlib.Omega.{arith}
use lib.ListN.{length, length-append}
use mathlib.Core.List.{[], ◌∷◌}
use Rattle.ring.specs.declared.refusals.Carried.{Carried}
use Rattle.ring.specs.declared.refusals.Carried.TheVariants.{None, One, Two}
use Rattle.texts.proofs.WordLaws.{labelled_short}
use Rattle.check_text.specs.Verdict.{carried_text}

-- two numbers at most, each after a space
pub carried_short : (carried : Carried) → length (carried_text carried) ≤ 12
carried_short None = omega arith
carried_short (One first) =
    let one = labelled_short (32 ∷ []) first in
    omega arith
carried_short (Two first second) =
    let one = labelled_short (32 ∷ []) first in
    let other = labelled_short (32 ∷ []) second in
    simp length-append (omega arith)

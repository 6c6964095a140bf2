-- What the invariant says of a state at once.
use Prim.Native.Nat.{ℕ}
use mathlib.Core.Path.{◌≡◌}
use mathlib.Core.Bool.{Bool, false, not, ◌&&◌}
use lib.Dec.{eqb}
use Rattle.ring.proofs.Cases.{yes, no, is}
use Rattle.blossom.specs.Internal.Labels.{Even}
use Rattle.blossom.specs.Internal.State.{State, Invariant}

-- of the tree, only the root is exposed
pub exposed_is_root : (adj : ℕ → ℕ → Bool) (M : ℕ → ℕ) (r : ℕ) (s : State) → Invariant adj M r s → (x : ℕ) → s.label x ≡ Even
    → (eqb (M x) x && not (eqb x r)) ≡ false
exposed_is_root adj M r s I x e = elim (is (eqb x r)) [ yes f ↦ cc (I.mate_even x e) | no f ↦ cc (I.mate_even x e) ]

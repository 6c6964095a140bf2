-- A list of the same. Assumes nothing.
use Prim.Native.Nat.{ℕ, zero, suc}
use mathlib.Core.Path.{◌≡◌, refl}
use lib.ListN.{get_or, replicate}

pub same_at : {A : Type 0} (n e : ℕ) (x : A) → get_or (replicate n x) e x ≡ x
same_at zero e x = refl
same_at (suc n) zero x = refl
same_at (suc n) (suc e) x = same_at n e x

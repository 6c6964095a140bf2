-- The serials of a history: none is given before the first grant, and from then on k, .., 2, 1, each once.
use Prim.Native.Nat.{ℕ, zero, suc, ◌-◌, ◌<◌}
use mathlib.Core.Path.{◌≡◌, refl, ◌∙◌, ap}
use mathlib.Core.Bool.{true}
use native.Mathlib.Omega.{arith}
use lib.ListN.{length, get_or}
use borrow.Author.Tests.{eqb-false, lt-ltb}
use Rattle.ring.specs.Matchings.{NoTwice}
use Rattle.ring.proofs.Cases.{test, same, different}
use Rattle.book.specs.Orders.{never_given}
use Rattle.book.specs.History.{down_from}

pub none_given : (s : ℕ) → never_given 0 s ≡ true
unfolding never_given
none_given s = elim (test s 0) [
  | same e t ↦ cc
  | different d ↦ cc (d.left, lt-ltb 0 s (omega (arith, eqb-false s 0 d.left)))
]

down_at : (k i : ℕ) → i < k → get_or (down_from k) i 0 ≡ k - i
down_at zero i h = absurd (omega arith)
down_at (suc k) zero h = omega arith
down_at (suc k) (suc i) h = down_at k i (omega arith) ∙ omega arith

down_length : (k : ℕ) → length (down_from k) ≡ k
down_length zero = refl
down_length (suc k) = ap suc (down_length k)

pub down_once : (k : ℕ) → NoTwice (down_from k)
down_once k i j l h e =
    let hj : j < k = omega (arith, down_length k) in
    omega (arith, down_at k i (omega arith), down_at k j hj)

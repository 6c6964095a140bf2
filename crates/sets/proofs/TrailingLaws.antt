-- The bit at the number of trailing zeros is the lowest one that is set.
use Prim.Native.Nat.{ℕ, zero, suc, ◌*◌, ◌/◌, ◌%◌, ◌^◌, ◌<◌}
use mathlib.Core.Path.{◌≡◌, refl, ◌∙◌}
use native.Mathlib.Nat.{pow-suc}
use native.Mathlib.Omega.{arith}
use lib.Count.{count_trailing_zeros, under}
use Rattle.sets.specs.Sets.{bit}
use Rattle.sets.proofs.BitLaws.{bit_suc, bit_low}

-- none below it
pub trailing_below : (w n k : ℕ) → k < count_trailing_zeros w n → bit n k ≡ 0
unfolding count_trailing_zeros
trailing_below zero n k h = absurd (omega arith)
trailing_below (suc w) n k h = go (trailing_below w (n / 2)) (n % 2) refl k h
  where
    go : ((k : ℕ) → k < count_trailing_zeros w (n / 2) → bit (n / 2) k ≡ 0) → (d : ℕ) → n % 2 ≡ d
        → (k : ℕ) → k < under d (count_trailing_zeros w (n / 2)) → bit n k ≡ 0
    go rest zero e zero h = bit_low n ∙ e
    go rest zero e (suc k) h = bit_suc n k ∙ rest k (omega arith)
    go rest (suc d) e k h = absurd (omega arith)

-- and it, in a number of w digits that is not 0
pub trailing_at : (w n : ℕ) → 0 < n → n < 2 ^ w → (count_trailing_zeros w n < w) × (bit n (count_trailing_zeros w n) ≡ 1)
unfolding count_trailing_zeros
trailing_at zero n p h = absurd (omega arith)
trailing_at (suc w) n p h =
    let small : n < 2 ^ w * 2 = rw pow-suc at h in
    go (λ q. trailing_at w (n / 2) q (omega arith)) (n % 2) refl
  where
    go : (0 < n / 2 → (count_trailing_zeros w (n / 2) < w) × (bit (n / 2) (count_trailing_zeros w (n / 2)) ≡ 1)) → (d : ℕ) → n % 2 ≡ d
        → (under d (count_trailing_zeros w (n / 2)) < suc w) × (bit n (under d (count_trailing_zeros w (n / 2))) ≡ 1)
    go rest zero e =
        let half = rest (omega arith) in
        (omega (arith, half.0), bit_suc n (count_trailing_zeros w (n / 2)) ∙ half.1)
    go rest (suc d) e = (omega arith, bit_low n ∙ omega arith)

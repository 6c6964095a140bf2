-- One changed byte changes the check: the weighted sum moves by less than twice 65,521 and, since that is a prime, never by 65,521.
use Prim.Native.Nat.{ℕ, zero, suc, ◌+◌, ◌-◌, ◌*◌, ◌/◌, ◌%◌, ◌≤◌, ◌<◌}
use mathlib.Core.Path.{◌≡◌, refl, sym, ◌∙◌, ap}
use mathlib.Core.Bool.{Bool, true, true≢false, not, ◌&&◌, ◌||◌}
use mathlib.Core.List.{List, [], ◌∷◌}
use native.Mathlib.Omega.{arith}
use native.Mathlib.Nat.{mul-le-mul, add-mul, mul-mod_right, one-mul}
use lib.Dec.{eqb, ltb}
use borrow.Author.Tests.{eq-eqb, le-ltb}
use lib.ListN.{length, get_or, take, set}
use lib.Seq.{take-set-lt, get_or-take, length-take-le}
use Rattle.ring.proofs.Cases.{compare, less, not_less, and_true}
use Rattle.stored.specs.Blocks.{weighted, check_of}

-- the sum after a change
pub sum_changed : (l : List ℕ) (s j x m : ℕ) → j < length l → m ≡ s + j + 1 → weighted s (set l j x) + get_or l j 0 * m ≡ weighted s l + x * m
sum_changed [] s j x m h e = absurd (omega arith)
sum_changed (y ∷ ys) s zero x m h e =
    let f : m ≡ s + 1 = omega arith in
    let p : x * m ≡ x * (s + 1) = ap (λ (k : ℕ). x * k) f in
    let q : y * m ≡ y * (s + 1) = ap (λ (k : ℕ). y * k) f in
    omega arith
sum_changed (y ∷ ys) s (suc j) x m h e =
    let r : weighted (s + 1) (set ys j x) + get_or ys j 0 * m ≡ weighted (s + 1) ys + x * m =
    sum_changed ys (s + 1) j x m (omega arith) (omega arith) in
    omega arith

-- whether every number below n passes a test, by trying them
abbrev every : (ℕ → Bool) → ℕ → Bool
every f zero = true
every f (suc n) = f n && every f n

passes : (f : ℕ → Bool) (n k : ℕ) → every f n ≡ true → k < n → f k ≡ true
passes f zero k e h = absurd (omega arith)
passes f (suc n) k e h =
    elim (compare k n) [
      | less p q ↦ passes f n k (and_true (f n) (every f n) e).1 p
      | not_less p q ↦
          let last : k ≡ n = omega arith in
          ap f last ∙ (and_true (f n) (every f n) e).0
    ]

-- no number from 2 to 255 divides 65,521
whole : ℕ → Bool
whole d = ltb d 2 || not (eqb (65521 % d) 0)

undivided : (d : ℕ) → 2 ≤ d → d < 256 → 65521 % d ≡ 0 → ⊥
unfolding whole
undivided d h k e = true≢false (cc (passes whole 256 d refl k, le-ltb d 2 h, eq-eqb (65521 % d) 0 e))

not_prime : (d m : ℕ) → 1 ≤ d → d < 256 → m ≤ 508 → d * m ≡ 65521 → ⊥
not_prime d m h k l e =
    elim (compare d 2) [
      | less p q ↦
          let o : d ≡ 1 = omega arith in
          let f : d * m ≡ 1 * m = ap (λ (j : ℕ). j * m) o in
          omega (arith, one-mul m)
      | not_less p q ↦ undivided d p k (sym (ap (λ (j : ℕ). j % d) e) ∙ mul-mod_right d m)
    ]

-- two sums that differ by a byte's change times its weight
shifted : (S R d m : ℕ) → 1 ≤ d → d < 256 → 1 ≤ m → m ≤ 508 → R ≡ S + d * m → R % 65521 ≡ S % 65521 → ⊥
shifted S R d m h k p l e f =
    let u : d * m ≤ 255 * 508 = mul-le-mul {n₁ = d} {m₁ = m} {n₂ = 255} {m₂ = 508} (omega arith) (omega arith) in
    let o : 1 * 1 ≤ d * m = mul-le-mul {n₁ = 1} {m₁ = 1} {n₂ = d} {m₂ = m} h p in
    elim (compare (R / 65521) (S / 65521 + 1)) [
      | less a b ↦ omega arith
      | not_less a b ↦
          elim (compare (S / 65521 + 1) (R / 65521)) [
            | less y z ↦ omega arith
            | not_less y z ↦
                let g : d * m ≡ 65521 = omega arith in
                not_prime d m h k l g
          ]
    ]

-- the check of a block with one of its first 508 bytes changed
pub check_changed : (l : List ℕ) (j x : ℕ) → length l ≡ 512 → j < 508 → x < 256 → get_or l j 0 < 256 → (x ≡ get_or l j 0 → ⊥)
    → check_of (set l j x) ≡ check_of l → ⊥
unfolding check_of
check_changed l j x n h hx hy different e =
    let k : j < length (take 510 l) = omega (arith, length-take-le 510 l (omega arith)) in
    let f : weighted 0 (take 510 (set l j x)) ≡ weighted 0 (set (take 510 l) j x) = ap (weighted 0) (take-set-lt 510 l j x (omega arith)) in
    let o : get_or (take 510 l) j 0 * (j + 1) ≡ get_or l j 0 * (j + 1) = ap (λ (z : ℕ). z * (j + 1)) (get_or-take 510 l j 0 (omega arith)) in
    let c : weighted 0 (set (take 510 l) j x) + get_or (take 510 l) j 0 * (j + 1) ≡ weighted 0 (take 510 l) + x * (j + 1) =
    sum_changed (take 510 l) 0 j x (j + 1) k (omega arith) in
    elim (compare x (get_or l j 0)) [
      | less a b ↦
          let d : get_or l j 0 ≡ x + (get_or l j 0 - x) = omega arith in
          let p : get_or l j 0 * (j + 1) ≡ x * (j + 1) + (get_or l j 0 - x) * (j + 1) = ap (λ (z : ℕ). z * (j + 1)) d
          ∙ add-mul x (get_or l j 0 - x) (j + 1) in
          shifted (weighted 0 (take 510 (set l j x))) (weighted 0 (take 510 l)) (get_or l j 0 - x) (j + 1) (omega arith) (omega arith)
          (omega arith) (omega arith) (omega arith) (sym e)
      | not_less a b ↦
          elim (compare (get_or l j 0) x) [
            | less u v ↦
                let d : x ≡ get_or l j 0 + (x - get_or l j 0) = omega arith in
                let p : x * (j + 1) ≡ get_or l j 0 * (j + 1) + (x - get_or l j 0) * (j + 1) = ap (λ (z : ℕ). z * (j + 1)) d
                ∙ add-mul (get_or l j 0) (x - get_or l j 0) (j + 1) in
                shifted (weighted 0 (take 510 l)) (weighted 0 (take 510 (set l j x))) (x - get_or l j 0) (j + 1) (omega arith) (omega arith)
                (omega arith) (omega arith) (omega arith) e
            | not_less u v ↦ different (omega arith)
          ]
    ]

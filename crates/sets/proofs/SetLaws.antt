-- Sets, by the words that hold their numbers.
use Prim.Native.Nat.{ℕ, zero, suc, ◌*◌, ◌/◌, ◌%◌, ◌^◌, ◌<◌}
use mathlib.Core.Path.{◌≡◌, refl, ap, ◌∙◌}
use mathlib.Core.Bool.{false, cond, ◌&&◌, ◌||◌, or_comm}
use mathlib.Core.List.{List, []}
use native.Mathlib.Decide.{ℕ_discrete}
use native.Mathlib.Omega.{arith}
use lib.Dec.{eqb}
use lib.Bits.{bit_or}
use lib.ListN.{length, get_or, set, replicate}
use lib.Seq.{get_or-set_same, get_or-set_other}
use borrow.Author.Tests.{eq-eqb, ne_eqb}
use Rattle.sets.specs.Sets.{has}
use Rattle.sets.proofs.BitLaws.{on, bit_zero, bit_mod, on_or, on_one}

-- ---- the empty set

zeros : (n i : ℕ) → get_or {A = ℕ} (replicate n 0) i 0 ≡ 0
zeros zero i = refl
zeros (suc n) zero = refl
zeros (suc n) (suc i) = zeros n i

-- in any number of words
pub has_zeros : (n y : ℕ) → has (replicate n 0) y ≡ false
unfolding has
has_zeros n y = ap (λ (w : ℕ). on w (y % 64)) (zeros n (y / 64)) ∙ ap (λ (d : ℕ). eqb d 1) (bit_zero (y % 64))

pub has_none : (y : ℕ) → has (replicate 8 0) y ≡ false
has_none y = has_zeros 8 y

-- ---- one word is changed

-- numbers in other words stay as they are, and numbers in this one go by its bits
pub has_set : (words : List ℕ) (k v y : ℕ) → k < length words → has (set words k v) y ≡ cond (eqb (y / 64) k) (on v (y % 64)) (has words y)
unfolding has
has_set words k v y h = elim (ℕ_discrete (y / 64) k) [
  | yes e ↦
      ap (λ (w : ℕ). on w (y % 64)) (ap (λ (i : ℕ). get_or (set words k v) i 0) e ∙ get_or-set_same words k v 0 h) ∙ cc (eq-eqb (y / 64) k e)
  | no n ↦ ap (λ (w : ℕ). on w (y % 64)) (get_or-set_other words k (y / 64) v 0 n) ∙ cc (ne_eqb (y / 64) k n)
]

-- a number that is held in word k
pub has_word : (words : List ℕ) (k y : ℕ) → y / 64 ≡ k → has words y ≡ on (get_or words k 0) (y % 64)
unfolding has
has_word words k y e = ap (λ (i : ℕ). on (get_or words i 0) (y % 64)) e

-- numbers are equal if their words and their bits are
number_test : (y z : ℕ) → eqb y z ≡ (eqb (y / 64) (z / 64) && eqb (y % 64) (z % 64))
number_test y z = elim (ℕ_discrete (y / 64) (z / 64)) [
  | yes e ↦ elim (ℕ_discrete (y % 64) (z % 64)) [
    | yes f ↦ cc (eq-eqb y z (omega arith), eq-eqb (y / 64) (z / 64) e, eq-eqb (y % 64) (z % 64) f)
    | no n ↦ cc (ne_eqb y z (λ p. n (ap (λ (x : ℕ). x % 64) p)), eq-eqb (y / 64) (z / 64) e, ne_eqb (y % 64) (z % 64) n)
  ]
  | no n ↦ cc (ne_eqb y z (λ p. n (ap (λ (x : ℕ). x / 64) p)), ne_eqb (y / 64) (z / 64) n)
]

-- 1 shifted up by j, in 64 digits
on_shifted : (j k : ℕ) → k < 64 → on (1 * 2 ^ j % 2 ^ 64) k ≡ eqb k j
on_shifted j k h = ap (λ (d : ℕ). eqb d 1) (bit_mod 64 (1 * 2 ^ j) k h) ∙ on_one j k

module _ (words : List ℕ) (z : ℕ) (h : z / 64 < length words) (y : ℕ) where
  below_64 : y % 64 < 64
  below_64 = omega arith

  pub added : has (set words (z / 64) (bit_or (get_or words (z / 64) 0) (1 * 2 ^ (z % 64) % 2 ^ 64))) y ≡ (eqb y z || has words y)
  added =
      let word = get_or words (z / 64) 0 in
      let mask = 1 * 2 ^ (z % 64) % 2 ^ 64 in
      has_set words (z / 64) (bit_or word mask) y h
      ∙ elim (ℕ_discrete (y / 64) (z / 64)) [
        | yes e ↦ cc (
          eq-eqb (y / 64) (z / 64) e,
          number_test y z,
          has_word words (z / 64) y e,
          on_or word mask (y % 64),
          on_shifted (z % 64) (y % 64) below_64,
          or_comm (on word (y % 64)) (eqb (y % 64) (z % 64)),
        )
        | no n ↦ cc (ne_eqb (y / 64) (z / 64) n, number_test y z)
      ]

-- ---- one of several sets is changed

module _ (sets : List (List ℕ)) (x : ℕ) (row : List ℕ) (h : x < length sets) (y : ℕ) where
  pub has_row : (j : ℕ) → has (get_or (set sets x row) y []) j ≡ cond (eqb y x) (has row j) (has (get_or sets y []) j)
  has_row j = elim (ℕ_discrete y x) [
    | yes e ↦
        ap (λ (i : ℕ). has (get_or (set sets x row) i []) j) e ∙ ap (λ (l : List ℕ). has l j) (get_or-set_same sets x row [] h)
        ∙ cc (eq-eqb y x e)
    | no n ↦ ap (λ (l : List ℕ). has l j) (get_or-set_other sets x y row [] n) ∙ cc (ne_eqb y x n)
  ]

  pub row_length : (n : ℕ) → length row ≡ n → length (get_or sets y []) ≡ n → length (get_or (set sets x row) y []) ≡ n
  row_length n e f = elim (ℕ_discrete y x) [
    | yes p ↦ ap (λ (i : ℕ). length (get_or (set sets x row) i [])) p ∙ ap length (get_or-set_same sets x row [] h) ∙ e
    | no d ↦ ap length (get_or-set_other sets x y row [] d) ∙ f
  ]

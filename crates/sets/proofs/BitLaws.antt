-- The bits of a word, and what the operations on words do to them.
use Prim.Native.Nat.{ℕ, zero, suc, ◌+◌, ◌-◌, ◌*◌, ◌/◌, ◌%◌, ◌^◌, ◌<◌, min, max}
use mathlib.Core.Path.{◌≡◌, refl, sym, ap, ◌∙◌}
use mathlib.Core.Bool.{Bool, not, xor, ◌&&◌, ◌||◌}
use native.Mathlib.Nat.{pow-suc}
use native.Mathlib.Numerals.{add-one, one-add}
use native.Mathlib.Omega.{arith}
use lib.Dec.{eqb, leb, eqb-zero-suc, eqb-suc-zero, eqb-suc-suc, leb-zero, leb-suc-zero, leb-suc-suc}
use lib.Pow.{pow_pos, shr-shr, field, mod-mod-pow}
use lib.Bits.{bit_and, bit_or, bit_xor, differ, and_shr, or_shr, xor_shr, and_step, or_step, xor_step, shifted_half, shifted_even}
use Rattle.sets.specs.Sets.{bit}

-- bit k of a word is set
abbrev pub on : ℕ → ℕ → Bool
on word k = eqb (bit word k) 1

-- the bits from 1 on are those of the half
pub bit_suc : (n k : ℕ) → bit n (suc k) ≡ bit (n / 2) k
bit_suc n k = ap (λ (d : ℕ). n / 2 ^ d % 2) (sym (one-add k)) ∙ ap (λ (q : ℕ). q % 2) (sym (shr-shr n 1 k))

pub bit_low : (n : ℕ) → bit n 0 ≡ n % 2
bit_low n = omega arith

pub bit_zero : (k : ℕ) → bit 0 k ≡ 0
bit_zero zero = refl
bit_zero (suc k) = bit_suc 0 k ∙ bit_zero k

-- ---- and, or, xor

-- an operation on two digits, as a test
and_digits : (x y : ℕ) → x < 2 → y < 2 → eqb (min x y) 1 ≡ (eqb x 1 && eqb y 1)
and_digits zero zero h l = refl
and_digits zero (suc zero) h l = refl
and_digits (suc zero) zero h l = refl
and_digits (suc zero) (suc zero) h l = refl
and_digits zero (suc (suc y)) h l = absurd (omega arith)
and_digits (suc zero) (suc (suc y)) h l = absurd (omega arith)
and_digits (suc (suc x)) y h l = absurd (omega arith)

or_digits : (x y : ℕ) → x < 2 → y < 2 → eqb (max x y) 1 ≡ (eqb x 1 || eqb y 1)
or_digits zero zero h l = refl
or_digits zero (suc zero) h l = refl
or_digits (suc zero) zero h l = refl
or_digits (suc zero) (suc zero) h l = refl
or_digits zero (suc (suc y)) h l = absurd (omega arith)
or_digits (suc zero) (suc (suc y)) h l = absurd (omega arith)
or_digits (suc (suc x)) y h l = absurd (omega arith)

xor_digits : (x y : ℕ) → x < 2 → y < 2 → (eqb (differ x y) 1 ≡ xor (eqb x 1) (eqb y 1)) × (differ x y < 2)
unfolding xor
xor_digits zero zero h l = (refl, omega arith)
xor_digits zero (suc zero) h l = (refl, omega arith)
xor_digits (suc zero) zero h l = (refl, omega arith)
xor_digits (suc zero) (suc zero) h l = (refl, omega arith)
xor_digits zero (suc (suc y)) h l = absurd (omega arith)
xor_digits (suc zero) (suc (suc y)) h l = absurd (omega arith)
xor_digits (suc (suc x)) y h l = absurd (omega arith)

-- the low digit of a number that is put together of a high part and a digit
low_digit : (high digit n : ℕ) → n ≡ high * 2 + digit → digit < 2 → n % 2 ≡ digit
low_digit high digit n e h = omega arith

digit_lt : (n : ℕ) → n % 2 < 2
digit_lt n = omega arith

module _ (a b k : ℕ) where
  pub on_and : on (bit_and a b) k ≡ (on a k && on b k)
  on_and =
      let x = a / 2 ^ k in
      let y = b / 2 ^ k in
      ap (λ (n : ℕ). eqb (n % 2) 1) (and_shr a b k)
      ∙ ap (λ (d : ℕ). eqb d 1)
      (low_digit (bit_and (x / 2) (y / 2)) (min (x % 2) (y % 2)) (bit_and x y) (and_step x y) (omega (arith, digit_lt x)))
      ∙ and_digits (x % 2) (y % 2) (digit_lt x) (digit_lt y)

  pub on_or : on (bit_or a b) k ≡ (on a k || on b k)
  on_or =
      let x = a / 2 ^ k in
      let y = b / 2 ^ k in
      ap (λ (n : ℕ). eqb (n % 2) 1) (or_shr a b k)
      ∙ ap (λ (d : ℕ). eqb d 1)
      (low_digit (bit_or (x / 2) (y / 2)) (max (x % 2) (y % 2)) (bit_or x y) (or_step x y) (omega (arith, digit_lt x, digit_lt y)))
      ∙ or_digits (x % 2) (y % 2) (digit_lt x) (digit_lt y)

  pub on_xor : on (bit_xor a b) k ≡ xor (on a k) (on b k)
  on_xor =
      let x = a / 2 ^ k in
      let y = b / 2 ^ k in
      let d = xor_digits (x % 2) (y % 2) (digit_lt x) (digit_lt y) in
      ap (λ (n : ℕ). eqb (n % 2) 1) (xor_shr a b k)
      ∙ ap (λ (d : ℕ). eqb d 1) (low_digit (bit_xor (x / 2) (y / 2)) (differ (x % 2) (y % 2)) (bit_xor x y) (xor_step x y) d.1)
      ∙ d.0

-- ---- the complement in w digits

pub bit_not : (w a k : ℕ) → a < 2 ^ w → k < w → bit (2 ^ w - 1 - a) k ≡ 1 - bit a k
bit_not zero a k h l = absurd (omega arith)
bit_not (suc w) a zero h l = let e = pow-suc 2 w in let p = pow_pos w in rw (pow-suc 2 w) (omega arith)
bit_not (suc w) a (suc k) h l =
    let p = pow_pos w in
    let small : a < 2 ^ w * 2 = rw pow-suc at h in
    let half : (2 ^ w * 2 - 1 - a) / 2 ≡ 2 ^ w - 1 - a / 2 = omega arith in
    bit_suc (2 ^ suc w - 1 - a) k
    ∙ ap (λ (n : ℕ). bit ((n - 1 - a) / 2) k) (pow-suc 2 w)
    ∙ ap (λ (n : ℕ). bit n k) half
    ∙ bit_not w (a / 2) k (omega arith) (omega arith)
    ∙ ap (λ (d : ℕ). 1 - d) (sym (bit_suc a k))

not_digit : (x : ℕ) → x < 2 → eqb (1 - x) 1 ≡ not (eqb x 1)
not_digit zero h = refl
not_digit (suc zero) h = refl
not_digit (suc (suc x)) h = absurd (omega arith)

pub on_not : (w a k : ℕ) → a < 2 ^ w → k < w → on (2 ^ w - 1 - a) k ≡ not (on a k)
on_not w a k h l = ap (λ (d : ℕ). eqb d 1) (bit_not w a k h l) ∙ not_digit (bit a k) (digit_lt (a / 2 ^ k))

-- ---- a word shifted up by j

-- the digits below w stay when those from w on are dropped
pub bit_mod : (w n k : ℕ) → k < w → bit (n % 2 ^ w) k ≡ bit n k
bit_mod zero n k h = absurd (omega arith)
bit_mod (suc w) n zero h = bit_low (n % 2 ^ suc w) ∙ ap (λ (d : ℕ). n % 2 ^ d % 2) (sym (add-one w)) ∙ mod-mod-pow n w 1 ∙ sym (bit_low n)
bit_mod (suc w) n (suc k) h =
    bit_suc (n % 2 ^ suc w) k
    ∙ ap (λ (d : ℕ). bit (n % 2 ^ d / 2) k) (sym (add-one w))
    ∙ ap (λ (q : ℕ). bit q k) (field n w 1)
    ∙ bit_mod w (n / 2) k (omega arith)
    ∙ sym (bit_suc n k)

-- 1 shifted up by j: bit j alone
pub on_one : (j k : ℕ) → on (1 * 2 ^ j) k ≡ eqb k j
on_one zero zero = refl
on_one zero (suc k) = ap (λ (d : ℕ). eqb d 1) (bit_suc 1 k ∙ bit_zero k) ∙ sym (eqb-suc-zero k)
on_one (suc j) zero = ap (λ (d : ℕ). eqb d 1) (bit_low (1 * 2 ^ suc j) ∙ shifted_even 1 j) ∙ sym (eqb-zero-suc j)
on_one (suc j) (suc k) =
    ap (λ (d : ℕ). eqb d 1) (bit_suc (1 * 2 ^ suc j) k ∙ ap (λ (n : ℕ). bit n k) (shifted_half 1 j)) ∙ on_one j k ∙ sym (eqb-suc-suc k j)

-- all of w digits shifted up by j: the bits from j on
pub on_ones : (w j k : ℕ) → k < w → on ((2 ^ w - 1) * 2 ^ j) k ≡ leb j k
on_ones w zero k h =
    let all : (2 ^ w - 1) * 1 ≡ 2 ^ w - 1 - 0 = omega arith in
    ap (λ (n : ℕ). on n k) all
    ∙ on_not w 0 k (pow_pos w) h
    ∙ ap (λ (d : ℕ). not (eqb d 1)) (bit_zero k)
    ∙ sym (leb-zero k)
on_ones w (suc j) zero h = ap (λ (d : ℕ). eqb d 1) (bit_low ((2 ^ w - 1) * 2 ^ suc j) ∙ shifted_even (2 ^ w - 1) j) ∙ sym (leb-suc-zero j)
on_ones w (suc j) (suc k) h =
    ap (λ (d : ℕ). eqb d 1) (bit_suc ((2 ^ w - 1) * 2 ^ suc j) k ∙ ap (λ (n : ℕ). bit n k) (shifted_half (2 ^ w - 1) j))
    ∙ on_ones w j k (omega arith) ∙ sym (leb-suc-suc j k)

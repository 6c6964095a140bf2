-- Decimal digits.
use Prim.Native.Nat.{ℕ, zero, suc, ◌+◌, ◌*◌, ◌/◌, ◌%◌, ◌≤◌, ◌<◌}
use mathlib.Core.Path.{◌≡◌, refl, sym, ◌∙◌, ap}
use mathlib.Core.List.{List, [], ◌∷◌, ◌++◌}
use native.Mathlib.Omega.{arith}
use lib.ListN.{length, length-append}
use borrow.Author.Tests.{lt-ltb, le-ltb}
use Rattle.ring.proofs.Cases.{less, not_less, compare}
use Rattle.texts.specs.Decimal.{digits, decimal, long_decimal}

-- the numbers of so many digits are below this
abbrev pub tens : ℕ → ℕ
tens zero = 1
tens (suc k) = 10 * tens k

-- the digits of a number from ten on: those of its tenth, and its last
pub digits_more : (k n : ℕ) → 10 ≤ n → digits (suc k) n ≡ digits k (n / 10) ++ ((48 + n % 10) ∷ [])
digits_more k n h = rw (le-ltb n 10 h) refl

pub digits_one : (k n : ℕ) → n < 10 → digits (suc k) n ≡ (48 + n) ∷ []
digits_one k n h = rw (lt-ltb n 10 h) refl

-- a number has at most so many digits
pub digits_short : (k n : ℕ) → length (digits k n) ≤ k
digits_short zero n = omega arith
digits_short (suc k) n = elim (compare n 10) [
  | less h t ↦ rw (digits_one k n h) (omega arith)
  | not_less h t ↦
      let short = digits_short k (n / 10) in
      rw (digits_more k n h, length-append) (omega arith)
]

-- and one at the least
pub digits_some : (k n : ℕ) → 0 < length (digits (suc k) n)
digits_some k n = elim (compare n 10) [
  | less h t ↦ rw (digits_one k n h) (omega arith)
  | not_less h t ↦ rw (digits_more k n h, length-append) (omega arith)
]

-- room for more digits changes nothing
pub digits_room : (k l n : ℕ) → k ≤ l → n < tens (suc k) → digits (suc k) n ≡ digits (suc l) n
digits_room zero l n r h = digits_one 0 n (omega arith) ∙ sym (digits_one l n (omega arith))
digits_room (suc k) zero n r h = absurd (omega arith)
digits_room (suc k) (suc l) n r h = elim (compare n 10) [
  | less i t ↦ digits_one (suc k) n i ∙ sym (digits_one (suc l) n i)
  | not_less i t ↦
      let tenth = digits_room k l (n / 10) (omega arith) (omega arith) in
      digits_more (suc k) n i ∙ (ap (λ (x : List ℕ). x ++ ((48 + n % 10) ∷ [])) tenth ∙ sym (digits_more (suc l) n i))
]

-- "numbers of 1 to 5 digits"
pub decimal_short : (n : ℕ) → length (decimal n) ≤ 5
unfolding decimal
decimal_short n = digits_short 5 n

-- a number of at most 5 digits is printed alike among the long ones
pub long_same : (n : ℕ) → n < 100000 → long_decimal n ≡ decimal n
unfolding decimal long_decimal
long_same n h = sym (digits_room 4 19 n (omega arith) (omega arith))

pub long_short : (n : ℕ) → length (long_decimal n) ≤ 20
unfolding long_decimal
long_short n = digits_short 20 n

pub long_one : (n : ℕ) → n < 10 → long_decimal n ≡ (48 + n) ∷ []
unfolding long_decimal
long_one n h = digits_one 19 n h

pub long_more : (n : ℕ) → 10 ≤ n → n < 18446744073709551616 → long_decimal n ≡ long_decimal (n / 10) ++ ((48 + n % 10) ∷ [])
unfolding long_decimal
long_more n h l =
    let room = digits_room 18 19 (n / 10) (omega arith) (omega arith) in
    digits_more 19 n h ∙ ap (λ (x : List ℕ). x ++ ((48 + n % 10) ∷ [])) room

-- the tenth of a number has a digit less
pub tenth_shorter : (n : ℕ) → 10 ≤ n → n < 18446744073709551616 → length (long_decimal n) ≡ length (long_decimal (n / 10)) + 1
tenth_shorter n h l = rw (long_more n h l) (simp length-append)

pub long_some : (n : ℕ) → 0 < length (long_decimal n)
unfolding long_decimal
long_some n = digits_some 19 n

-- A number that is printed and closed reads back as itself, and so does a line of two.
use Prim.Native.Nat.{ℕ, zero, suc, ◌+◌, ◌*◌, ◌-◌, ◌/◌, ◌%◌, ◌≤◌, ◌<◌}
use mathlib.Core.Path.{◌≡◌, refl, ◌∙◌, ap}
use mathlib.Core.Bool.{◌&&◌}
use mathlib.Core.List.{List, [], ◌∷◌, ◌++◌, append_assoc}
use native.Mathlib.Omega.{arith}
use lib.Dec.{eqb, leb, ltb}
use lib.ListN.{length, length-append}
use borrow.Author.Tests.{le-leb, lt-leb, lt-ltb, eq-eqb, leb-true}
use Rattle.ring.proofs.Cases.{less, not_less, compare, yes, no, is, and_true}
use Rattle.texts.specs.Decimal.{digits, decimal}
use Rattle.texts.specs.Fields.{Field, missing, found, on_field, one_more, closes, field_from, field, space, line_feed, broken, two, line}
use Rattle.texts.proofs.DecimalLaws.{tens, digits_one, digits_more, digits_short, digits_some}

-- a digit is read
digit_read : (most limit close count value b : ℕ) (text : List ℕ) → 48 ≤ b → b ≤ 57 → count < most
    → field_from most limit close count value (b ∷ text) ≡ field_from most limit close (count + 1) (10 * value + (b - 48)) text
digit_read most limit close count value b text h l f = rw (le-leb 48 b h, le-leb b 57 l, lt-ltb count most f) refl

-- the closing byte, which is no digit, ends the number
close_read : (most limit close count value : ℕ) (text : List ℕ) → close < 48 → 0 < count → value ≤ limit
    → field_from most limit close count value (close ∷ text) ≡ found value text
close_read most limit close count value text h l f =
    rw (lt-leb 48 close h, eq-eqb close close refl, lt-ltb 0 count l, le-leb value limit f) refl

-- the digits of a number are read as the number
digits_read : (most limit close k n : ℕ) (text : List ℕ) → k < most → n < tens (suc k)
    → field_from most limit close 0 0 (digits (suc k) n ++ text) ≡ field_from most limit close (length (digits (suc k) n)) n text
digits_read most limit close zero n text h l =
    let value : 10 * 0 + (48 + n - 48) ≡ n = omega arith in
    rw (digits_one 0 n (omega arith)) (digit_read most limit close 0 0 (48 + n) text (omega arith) (omega arith) (omega arith)
    ∙ ap (λ (v : ℕ). field_from most limit close 1 v text) value)
digits_read most limit close (suc k) n text h l = elim (compare n 10) [
  | less i t ↦
      let value : 10 * 0 + (48 + n - 48) ≡ n = omega arith in
      rw (digits_one (suc k) n i) (digit_read most limit close 0 0 (48 + n) text (omega arith) (omega arith) (omega arith)
      ∙ ap (λ (v : ℕ). field_from most limit close 1 v text) value)
  | not_less i t ↦
      let last = 48 + n % 10 in
      let front = digits (suc k) (n / 10) in
      let short = digits_short (suc k) (n / 10) in
      let split : (front ++ (last ∷ [])) ++ text ≡ front ++ (last ∷ text) = append_assoc front (last ∷ []) text in
      let size : length (front ++ (last ∷ [])) ≡ length front + 1 = length-append front (last ∷ []) in
      let value : 10 * (n / 10) + (48 + n % 10 - 48) ≡ n = omega arith in
      rw (digits_more (suc k) n i, split, size)
      (digits_read most limit close k (n / 10) (last ∷ text) (omega arith) (omega arith)
      ∙ (digit_read most limit close (length front) (n / 10) last text (omega arith) (omega arith) (omega arith)
      ∙ ap (λ (v : ℕ). field_from most limit close (length front + 1) v text) value))
]

-- a number that is printed and closed reads back as itself
pub decimal_read : (close n : ℕ) (text : List ℕ) → close < 48 → n < 65536 → field close (decimal n ++ (close ∷ text)) ≡ found n text
unfolding field decimal
decimal_read close n text h l =
    digits_read 5 65535 close 4 n (close ∷ text) (omega arith) (omega arith)
    ∙ close_read 5 65535 close (length (digits 5 n)) n text h (digits_some 4 n) (omega arith)

-- a line reads back as its ends
pub line_read : (x y : ℕ) (text : List ℕ) → x < 65536 → y < 65536
    → line (decimal x ++ (space ∷ (decimal y ++ (line_feed ∷ text)))) ≡ two x y text
unfolding line
line_read x y text hx hy =
    rw (decimal_read space x (decimal y ++ (line_feed ∷ text)) (omega arith) hx, decimal_read line_feed y text (omega arith) hy) refl

-- a number that is read is within the limit
within_limit : (most limit close count value : ℕ) (text : List ℕ) {v : ℕ} {rest : List ℕ}
    → field_from most limit close count value text ≡ found v rest → v ≤ limit
within_limit most limit close count value [] {v} {rest} e = let z : ◌≡◌ {A = ℕ} 0 1 = cc in absurd (omega arith)
within_limit most limit close count value (b ∷ text) {v} {rest} e = elim (is (one_more most b count)) [
  | yes t ↦ within_limit most limit close (count + 1) (10 * value + (b - 48)) text (rw t at e)
  | no t ↦ elim (is (closes limit close b count value)) [
    | yes c ↦
        let within = leb-true value limit
        (and_true (ltb 0 count) (leb value limit) (and_true (eqb b close) (ltb 0 count && leb value limit) c).1).1 in
        let here : found value text ≡ found v rest = rw (t, c) at e in
        let same : value ≡ v = cc in
        omega arith
    | no c ↦
        let here : missing ≡ found v rest = rw (t, c) at e in
        let z : ◌≡◌ {A = ℕ} 0 1 = cc in
        absurd (omega arith)
  ]
]

-- a number that is read has 16 bits
pub field_small : (close : ℕ) (text : List ℕ) {v : ℕ} {rest : List ℕ} → field close text ≡ found v rest → v < 65536
unfolding field
field_small close text e = let within = within_limit 5 65535 close 0 0 text e in omega arith

-- the ends of a line that is read have 16 bits
pub line_small : (text : List ℕ) {x y : ℕ} {rest : List ℕ} → line text ≡ two x y rest → (x < 65536) × (y < 65536)
unfolding line
line_small text {x} {y} {rest} e = first (field space text) refl e
  where
    second : (v : ℕ) (behind : List ℕ) → v < 65536 → (f : Field) → field line_feed behind ≡ f
        → on_field f broken (λ u rest. two v u rest) ≡ two x y rest → (x < 65536) × (y < 65536)
    second v behind h missing q e = let z : ◌≡◌ {A = ℕ} 0 1 = cc in absurd (omega arith)
    second v behind h (found u last) q e =
        let small = field_small line_feed behind q in
        let same : v ≡ x = cc in
        let also : u ≡ y = cc in
        (omega arith, omega arith)

    first : (f : Field) → field space text ≡ f
        → on_field f broken (λ v behind. on_field (field line_feed behind) broken (λ u rest. two v u rest)) ≡ two x y rest
        → (x < 65536) × (y < 65536)
    first missing q e = let z : ◌≡◌ {A = ℕ} 0 1 = cc in absurd (omega arith)
    first (found v behind) q e = second v behind (field_small space text q) (field line_feed behind) refl e

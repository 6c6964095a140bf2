-- Numbers and lines read from the start of a text.
use Prim.Native.Nat.{ℕ, zero, suc, ◌+◌, ◌*◌, ◌-◌, ◌≤◌, ◌<◌}
use mathlib.Core.Path.{◌≡◌, refl, sym}
use mathlib.Core.Bool.{true, cond, ◌&&◌}
use mathlib.Core.List.{List, [], ◌∷◌}
use native.Mathlib.Omega.{arith}
use native.Mathlib.Numerals.{add-one}
use lib.Dec.{eqb, leb, ltb}
use lib.ListN.{length}
use borrow.Author.Tests.{ltb-true, leb-true}
use Rattle.ring.proofs.Cases.{yes, no, is, and_true}
use Rattle.texts.specs.Fields.{Field, missing, found, on_field, one_more, closes, field_from, field, long_field, space, line_feed, broken, two, line}
use Rattle.texts.specs.Fields.{ended}
use Rattle.texts.proofs.DecimalLaws.{tens}

-- one more digit is a digit, and is one of so many
pub one_more_digit : (most b count : ℕ) → one_more most b count ≡ true → (48 ≤ b) × (b ≤ 57) × (count < most)
one_more_digit most b count e =
    let both = and_true (leb 48 b && leb b 57) (ltb count most) e in
    let digit = and_true (leb 48 b) (leb b 57) both.0 in
    (leb-true 48 b digit.0, leb-true b 57 digit.1, ltb-true count most both.1)

-- more digits make more numbers
tens_rise : (j k : ℕ) → j ≤ k → tens j ≤ tens k
tens_rise zero zero h = omega arith
tens_rise zero (suc k) h = let rest = tens_rise zero k (omega arith) in omega arith
tens_rise (suc j) zero h = absurd (omega arith)
tens_rise (suc j) (suc k) h = let rest = tens_rise j k (omega arith) in omega arith

-- a value of fewer than ten digits
pub tens_small : (count value : ℕ) → count < 10 → value < tens count → value < 1000000000
tens_small count value h l = let most : tens count ≤ 1000000000 = tens_rise count 9 (omega arith) in omega arith

pub tens_next : (count value digit : ℕ) → value < tens count → digit ≤ 9 → 10 * value + digit < tens (count + 1)
tens_next count value digit h l = rw add-one (omega arith)

-- a number that is read leaves less of the text: a digit and the closing byte are two bytes
from_shorter : (most limit close count value : ℕ) (text : List ℕ) {v : ℕ} {rest : List ℕ}
    → field_from most limit close count value text ≡ found v rest → length rest + 1 + cond (ltb 0 count) 0 1 ≤ length text
from_shorter most limit close count value [] {v} {rest} e = let z : ◌≡◌ {A = ℕ} 0 1 = cc in absurd (omega arith)
from_shorter most limit close count value (b ∷ text) {v} {rest} e = elim (is (one_more most b count)) [
  | yes t ↦
      let tail = from_shorter most limit close (count + 1) (10 * value + (b - 48)) text (rw t at e) in
      grind (arith, tail)
  | no t ↦ elim (is (closes limit close b count value)) [
    | yes c ↦
        let some = (and_true (ltb 0 count) (leb value limit) (and_true (eqb b close) (ltb 0 count && leb value limit) c).1).0 in
        let here : found value text ≡ found v rest = rw (t, c) at e in
        let same : text ≡ rest = cc in
        rw (← same, some) (omega arith)
    | no c ↦
        let here : missing ≡ found v rest = rw (t, c) at e in
        let z : ◌≡◌ {A = ℕ} 0 1 = cc in
        absurd (omega arith)
  ]
]

pub field_shorter : (close : ℕ) (text : List ℕ) {v : ℕ} {rest : List ℕ} → found v rest ≡ field close text → length rest + 2 ≤ length text
unfolding field
field_shorter close text e = let short = from_shorter 5 65535 close 0 0 text (sym e) in omega arith

pub long_shorter : (close : ℕ) (text : List ℕ) {v : ℕ} {rest : List ℕ} → found v rest ≡ long_field close text
    → length rest + 2 ≤ length text
unfolding long_field
long_shorter close text e = let short = from_shorter 10 4294967295 close 0 0 text (sym e) in omega arith

-- and so does a line
pub line_shorter : (text : List ℕ) {x y : ℕ} {rest : List ℕ} → two x y rest ≡ line text → length rest + 4 ≤ length text
unfolding line
line_shorter text {x} {y} {rest} e = first (field space text) refl (sym e)
  where
    second : (v : ℕ) (behind : List ℕ) → length behind + 2 ≤ length text → (f : Field) → field line_feed behind ≡ f
        → on_field f broken (λ u last. two v u last) ≡ two x y rest → length rest + 4 ≤ length text
    second v behind h missing q e = let z : ◌≡◌ {A = ℕ} 0 1 = cc in absurd (omega arith)
    second v behind h (found u last) q e =
        let short = field_shorter line_feed behind (sym q) in
        let same : last ≡ rest = cc in
        rw (← same) (omega arith)

    first : (f : Field) → field space text ≡ f
        → on_field f broken (λ v behind. on_field (field line_feed behind) broken (λ u last. two v u last)) ≡ two x y rest
        → length rest + 4 ≤ length text
    first missing q e = let z : ◌≡◌ {A = ℕ} 0 1 = cc in absurd (omega arith)
    first (found v behind) q e = second v behind (field_shorter space text (sym q)) (field line_feed behind) refl e

-- something or nothing is left
pub ended_not : {A : Type 0} (rest : List ℕ) (this that : A) → (rest ≡ [] → ⊥) → ended rest this that ≡ that
ended_not [] this that h = absurd (h refl)
ended_not (b ∷ rest) this that h = refl

pub ended_so : {A : Type 0} (rest : List ℕ) (this that : A) → rest ≡ [] → ended rest this that ≡ this
ended_so rest this that e = rw e refl

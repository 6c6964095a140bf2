-- The lines of a text, read into a buffer.
use Prim.Native.Nat.{ℕ, zero, suc, ◌+◌, ◌*◌, ◌-◌, ◌≤◌, ◌<◌}
use mathlib.Core.Path.{◌≡◌, refl, sym, ◌∙◌}
use mathlib.Core.List.{List, [], ◌∷◌, ◌++◌, append_assoc}
use native.Mathlib.Omega.{arith}
use native.Mathlib.Numerals.{add-one, unary_clauses}
use lib.ListN.{length, take, set, length-set}
use lib.Seq.{take-suc-set}
use Rattle.texts.specs.Fields.{Field, missing, found, on_field, field, space, line_feed, line, two, on_line}
use Rattle.texts.proofs.FieldLaws.{field_shorter}
use Rattle.plan_text.specs.Reading.{lines_from, unfit, none, numbers, heading}

-- two numbers more in a buffer
pub take_two : (l : List ℕ) (i x y : ℕ) → i + 1 < length l → take (i + 2) (set (set l i x) (i + 1) y) ≡ take i l ++ (x ∷ y ∷ [])
take_two l i x y h =
    let next : i + 2 ≡ suc (i + 1) = omega arith in
    let one : take (i + 1) (set l i x) ≡ take i l ++ (x ∷ []) = rw add-one (take-suc-set l i x (omega arith)) in
    let inside : i + 1 < length (set l i x) = rw length-set h in
    rw (next, take-suc-set (set l i x) (i + 1) y inside, one) (append_assoc (take i l) (x ∷ []) (y ∷ []))

-- a line more is the first of those that are left
lines_suc : (sofar : List ℕ) (left : ℕ) (text : List ℕ) → 0 < left
    → lines_from sofar left text ≡ on_line (line text) unfit (λ x y rest. lines_from (sofar ++ (x ∷ y ∷ [])) (left - 1) rest)
lines_suc sofar zero text h = absurd (omega arith)
lines_suc sofar (suc left) text h = simp unary_clauses refl

pub lines_turn : (buffer text : List ℕ) (i m : ℕ) {x y : ℕ} {rest : List ℕ} → i < m → 2 * i + 1 < length buffer → two x y rest ≡ line text
    → lines_from (take (2 * (i + 1)) (set (set buffer (2 * i) x) (2 * i + 1) y)) (m - (i + 1)) rest
    ≡ lines_from (take (2 * i) buffer) (m - i) text
lines_turn buffer text i m {x} {y} {rest} h l e =
    let count : 2 * (i + 1) ≡ 2 * i + 2 = omega arith in
    let left : m - (i + 1) ≡ m - i - 1 = omega arith in
    rw (count, left, take_two buffer (2 * i) x y l) (sym (lines_suc (take (2 * i) buffer) (m - i) text (omega arith) ∙ rw (← e) refl))

-- the first line leaves no more than the text
pub heading_shorter : (text : List ℕ) {n w m : ℕ} {lines : List ℕ} → numbers n w m lines ≡ heading text → length lines ≤ length text
unfolding heading
heading_shorter text {n} {w} {m} {lines} e = first (field space text) refl (sym e)
  where
    third : (a b : ℕ) (rest : List ℕ) → length rest ≤ length text → (f : Field) → field line_feed rest ≡ f
        → on_field f none (λ c last. numbers a b c last) ≡ numbers n w m lines → length lines ≤ length text
    third a b rest h missing q e = let z : ◌≡◌ {A = ℕ} 0 1 = cc in absurd (omega arith)
    third a b rest h (found c last) q e =
        let short = field_shorter line_feed rest (sym q) in
        let same : last ≡ lines = cc in
        rw (← same) (omega arith)

    second : (a : ℕ) (behind : List ℕ) → length behind ≤ length text → (f : Field) → field space behind ≡ f
        → on_field f none (λ b rest. on_field (field line_feed rest) none (λ c last. numbers a b c last)) ≡ numbers n w m lines
        → length lines ≤ length text
    second a behind h missing q e = let z : ◌≡◌ {A = ℕ} 0 1 = cc in absurd (omega arith)
    second a behind h (found b rest) q e =
        let short = field_shorter space behind (sym q) in
        third a b rest (omega arith) (field line_feed rest) refl e

    first : (f : Field) → field space text ≡ f
        → on_field f none (λ a behind.
        on_field (field space behind) none (λ b rest. on_field (field line_feed rest) none (λ c last. numbers a b c last)))
        ≡ numbers n w m lines
        → length lines ≤ length text
    first missing q e = let z : ◌≡◌ {A = ℕ} 0 1 = cc in absurd (omega arith)
    first (found a behind) q e =
        let short = field_shorter space text (sym q) in
        second a behind (omega arith) (field space behind) refl e

-- The lines of fate numbers, read into a buffer.
use Prim.Native.Nat.{ℕ, zero, suc, ◌+◌, ◌-◌, ◌<◌}
use mathlib.Core.Path.{◌≡◌, refl, sym, ◌∙◌}
use mathlib.Core.List.{List, [], ◌∷◌, ◌++◌}
use native.Mathlib.Omega.{arith}
use native.Mathlib.Numerals.{add-one, unary_clauses}
use lib.ListN.{length, take, set}
use lib.Seq.{take-suc-set}
use Rattle.texts.specs.Fields.{found, field, on_field, line_feed}
use Rattle.plan_text.specs.Reading.{unfit}
use Rattle.check_text.specs.Reading.{numbers_from}

-- a line more is the first of those that are left
table_suc : (sofar : List ℕ) (left : ℕ) (text : List ℕ) → 0 < left
    → numbers_from sofar left text
    ≡ on_field (field line_feed text) unfit (λ number rest. numbers_from (sofar ++ (number ∷ [])) (left - 1) rest)
table_suc sofar zero text h = absurd (omega arith)
table_suc sofar (suc left) text h = simp unary_clauses refl

pub table_turn : (buffer text : List ℕ) (i m : ℕ) {number : ℕ} {rest : List ℕ} → i < m → i < length buffer
    → found number rest ≡ field line_feed text
    → numbers_from (take (i + 1) (set buffer i number)) (m - (i + 1)) rest ≡ numbers_from (take i buffer) (m - i) text
table_turn buffer text i m {number} {rest} h l e =
    let left : m - (i + 1) ≡ m - i - 1 = omega arith in
    rw (left, add-one, take-suc-set buffer i number l) (sym (table_suc (take i buffer) (m - i) text (omega arith) ∙ rw (← e) refl))

-- The lines of the lengths, read into a buffer.
use Prim.Native.Nat.{ℕ, zero, suc, ◌+◌, ◌-◌, ◌<◌}
use mathlib.Core.Path.{◌≡◌, refl, sym, ◌∙◌}
use mathlib.Core.List.{List, [], ◌∷◌, ◌++◌}
use native.Mathlib.Omega.{arith}
use native.Mathlib.Numerals.{add-one, unary_clauses}
use lib.ListN.{length, take, set}
use lib.Seq.{take-suc-set}
use Rattle.texts.specs.Fields.{found, long_field, on_field, line_feed}
use Rattle.texts.proofs.FieldLaws.{ended_not}
use Rattle.charges_text.specs.Reading.{unfit, all, lengths_from}

-- a line more is the first of those that are left
lengths_step : (text : List ℕ) (left : ℕ) → (text ≡ [] → ⊥) → 0 < left → (sofar : List ℕ)
    → lengths_from sofar left text
    ≡ on_field (long_field line_feed text) unfit (λ l rest. lengths_from (sofar ++ (l ∷ [])) (left - 1) rest)
lengths_step text zero here some sofar = absurd (omega arith)
lengths_step text (suc left) here some sofar = ended_not text (all sofar) _ here ∙ simp unary_clauses refl

module _ (buffer text : List ℕ) (count lines : ℕ) (here : text ≡ [] → ⊥) (some : count < lines) where
  pub lengths_turn : {l : ℕ} {rest : List ℕ} → count < length buffer → found l rest ≡ long_field line_feed text
      → lengths_from (take (count + 1) (set buffer count l)) (lines - (count + 1)) rest
      ≡ lengths_from (take count buffer) (lines - count) text
  lengths_turn {l} {rest} h e =
      let left : lines - (count + 1) ≡ lines - count - 1 = omega arith in
      rw (left, add-one, take-suc-set buffer count l h)
      (sym (lengths_step text (lines - count) here (omega arith) (take count buffer) ∙ rw (← e) refl))

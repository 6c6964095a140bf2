-- A list and its table, printed, read back as themselves.
use Prim.Native.Nat.{ℕ, ◌*◌, ◌<◌}
use mathlib.Core.Path.{◌≡◌, refl, sym, ◌∙◌, ap}
use mathlib.Core.List.{List, [], ◌∷◌, ◌++◌, append_assoc, append-nil}
use native.Mathlib.Omega.{arith}
use lib.ListN.{length}
use Rattle.texts.specs.Decimal.{decimal}
use Rattle.texts.specs.Fields.{line_feed}
use Rattle.plan_text.specs.Reading.{all}
use Rattle.texts.proofs.DecimalRead.{decimal_read}
use Rattle.plan_text.proofs.ReadBack.{Ends, heading_text, heading_read, lines_text, lines_read}
use Rattle.check_text.specs.Reading.{numbers_from, form_of, readable}

-- fate numbers that a text can hold: each of 16 bits
pub data Numbers : List ℕ → Type 0 where
  empty : Numbers []
  more : {number : ℕ} {table : List ℕ} → number < 65536 → Numbers table → Numbers (number ∷ table)

-- the lines of the table, with no leading zeros
abbrev pub table_text : List ℕ → List ℕ
table_text [] = []
table_text (number ∷ table) = decimal number ++ (line_feed ∷ table_text table)

-- the text that says n, w, the ends and the table
abbrev pub text_of : ℕ → ℕ → List ℕ → List ℕ → List ℕ
text_of n w ends table = heading_text n w (length table) (lines_text ends (table_text table))

-- the lines of the table read back as the table
table_read : (sofar : List ℕ) {table : List ℕ} → Numbers table
    → numbers_from sofar (length table) (table_text table) ≡ all (sofar ++ table) []
table_read sofar empty = ap (λ (l : List ℕ). all l []) (sym (append-nil sofar))
table_read sofar (more {number} {table} h t) =
    rw (decimal_read line_feed number (table_text table) (omega arith) h)
    (table_read (sofar ++ (number ∷ [])) t ∙ ap (λ (l : List ℕ). all l []) (append_assoc sofar (number ∷ []) table))

module _ (n w : ℕ) (ends table : List ℕ) (nodes : n < 65536) (colours : w < 65536) (few : length table < 65536)
    (listed : Ends ends) (numbered : Numbers table) (two : length ends ≡ 2 * length table) where
  -- the whole text reads back as n, w, the ends and the table
  pub text_read : form_of (text_of n w ends table) ≡ readable n w ends table
  unfolding form_of
  text_read =
      rw (
        heading_read n w (length table) (lines_text ends (table_text table)) nodes colours few,
        lines_read ends [] (length table) (table_text table) listed two,
        table_read [] numbered,
      ) refl

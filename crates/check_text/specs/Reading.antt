-- The form of the checking program's input, and what a text of that form says.
use Rattle.std.specs.Prelude.{ℕ, zero, suc, cond, List, [], ◌∷◌, ◌++◌, ltb, length}
use Rattle.texts.specs.Fields.{field, on_field, line_feed}
use Rattle.plan_text.specs.Reading.{Lines, unfit, all, lines_from, Heading, none, numbers, heading}

-- "m lines of one fate number each, every line closed by a line feed": the numbers read so far, and those of m lines more
abbrev pub numbers_from : List ℕ → ℕ → List ℕ → Lines
numbers_from sofar zero text = all sofar text
numbers_from sofar (suc m) text = on_field (field line_feed text) unfit (λ number rest. numbers_from (sofar ++ (number ∷ [])) m rest)

-- what a text says: n, w, the ends and the table
pub data Reading : Type 0 where
  unreadable : Reading
  readable : ℕ → ℕ → List ℕ → List ℕ → Reading

-- n, w and the ends with the table, behind which nothing stands
abbrev pub with_table : ℕ → ℕ → List ℕ → Lines → Reading
with_table n w ends unfit = unreadable
with_table n w ends (all table []) = readable n w ends table
with_table n w ends (all table (b ∷ text)) = unreadable

-- the m lines of two ends with the m lines of the table behind them
abbrev pub behind_ends : ℕ → ℕ → ℕ → Lines → Reading
behind_ends n w m unfit = unreadable
behind_ends n w m (all ends text) = with_table n w ends (numbers_from [] m text)

-- the first line with the lines behind it
abbrev pub behind_heading : Heading → Reading
behind_heading none = unreadable
behind_heading (numbers n w m text) = behind_ends n w m (lines_from [] m text)

-- "the planning program's text, followed by m lines of one fate number each"
unfoldable pub form_of : List ℕ → Reading
form_of text = behind_heading (heading text)

-- "21 first: more than 16,384 bytes, or a text not of this form"
unfoldable pub reading_of : List ℕ → Reading
reading_of text = cond (ltb 16384 (length text)) unreadable (form_of text)

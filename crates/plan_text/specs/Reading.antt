-- The form of the planning program's input, and what a text of that form says.
use Rattle.std.specs.Prelude.{ℕ, zero, suc, cond, List, [], ◌∷◌, ◌++◌, ltb, length}
use Rattle.texts.specs.Fields.{space, line_feed, field, on_field, line, on_line}

-- the numbers of some lines, and the text behind them
pub data Lines : Type 0 where
  unfit : Lines
  all : List ℕ → List ℕ → Lines

-- "then m lines of two ends": the ends read so far, and those of m lines more
abbrev pub lines_from : List ℕ → ℕ → List ℕ → Lines
lines_from sofar zero text = all sofar text
lines_from sofar (suc m) text = on_line (line text) unfit (λ x y rest. lines_from (sofar ++ (x ∷ y ∷ [])) m rest)

-- the first line: "a line n w m", and the text behind it
pub data Heading : Type 0 where
  none : Heading
  numbers : ℕ → ℕ → ℕ → List ℕ → Heading

-- its three numbers, "one space between", and its line feed
unfoldable pub heading : List ℕ → Heading
heading text =
    on_field (field space text) none
    (λ n behind. on_field (field space behind) none (λ w rest. on_field (field line_feed rest) none (λ m lines. numbers n w m lines)))

-- what a text says: n, w and the ends
pub data Reading : Type 0 where
  unreadable : Reading
  readable : ℕ → ℕ → List ℕ → Reading

-- n and w with the ends of the lines, behind which nothing stands
abbrev pub with_ring : ℕ → ℕ → Lines → Reading
with_ring n w unfit = unreadable
with_ring n w (all ends []) = readable n w ends
with_ring n w (all ends (b ∷ text)) = unreadable

-- the first line with the m lines behind it
abbrev pub behind_heading : Heading → Reading
behind_heading none = unreadable
behind_heading (numbers n w m lines) = with_ring n w (lines_from [] m lines)

-- the reading of a text of the stated form
unfoldable pub form_of : List ℕ → Reading
form_of text = behind_heading (heading text)

-- "21 first: more than 8,192 bytes, or a text not of the stated form"
unfoldable pub reading_of : List ℕ → Reading
reading_of text = cond (ltb 8192 (length text)) unreadable (form_of text)

-- The form of the input of `rings charges`, and what a text of that form says.
use Rattle.std.specs.Prelude.{ℕ, zero, suc, cond, List, [], ◌∷◌, ◌++◌, ltb, length}
use Rattle.texts.specs.Fields.{long_field, on_field, ended, space, line_feed}

-- lines of one number each
pub data Lines : Type 0 where
  unfit : Lines
  all : List ℕ → Lines

-- "a line for each length, .. every line closed by a line feed", to the end of the text: the lengths read so far, and those of at most so
-- many lines more
abbrev pub lengths_from : List ℕ → ℕ → List ℕ → Lines
lengths_from sofar zero text = ended text (all sofar) unfit
lengths_from sofar (suc left) text =
    ended text (all sofar) (on_field (long_field line_feed text) unfit (λ l rest. lengths_from (sofar ++ (l ∷ [])) left rest))

-- the lengths of all lines of a text, which has no more lines than bytes
abbrev pub lengths_of : List ℕ → Lines
lengths_of text = lengths_from [] (length text) text

-- what a text says: the rates and the lengths
pub data Reading : Type 0 where
  unreadable : Reading
  readable : List ℕ → List ℕ → Reading

-- the rates with the lengths behind them
abbrev pub with_lengths : List ℕ → Lines → Reading
with_lengths rates unfit = unreadable
with_lengths rates (all lengths) = readable rates lengths

-- "a line of the three rates, .. one space between", then the lengths
unfoldable pub form_of : List ℕ → Reading
form_of text =
    on_field (long_field space text) unreadable
    (λ first second. on_field (long_field space second) unreadable
    (λ middle third. on_field (long_field line_feed third) unreadable
    (λ last rest. with_lengths (first ∷ middle ∷ last ∷ []) (lengths_of rest))))

-- "21 first: more than 8,192 bytes, or a text not of this form"
unfoldable pub reading_of : List ℕ → Reading
reading_of text = cond (ltb 8192 (length text)) unreadable (form_of text)

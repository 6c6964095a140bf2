-- What a reader finds, with what is left of the text behind it, as the definitions have it.
use Rattle.std.specs.Prelude.{ℕ, List, Option, Some, None}
use Rattle.std.specs.Borrow.{Bor}
use Rattle.texts.specs.Fields.{Field, missing, found, Line, broken, two}

-- a number with the text behind it
abbrev pub number_found : Option (ℕ × Bor (List ℕ)) → Field
number_found None = missing
number_found (Some both) = found both.0 both.1.now

-- a number, and what is left behind it
abbrev pub field_read : Option ℕ → List ℕ → Field
field_read None rest = missing
field_read (Some value) rest = found value rest

-- a line of two ends, and what is left behind it
abbrev pub line_read : Option (ℕ × ℕ) → List ℕ → Line
line_read None rest = broken
line_read (Some ends) rest = two ends.0 ends.1 rest

-- Numbers and lines of a bundle, as entries of a slice.
use Rattle.std.specs.Prelude.{ℕ, ◌+◌, ◌/◌, ◌%◌, cond, List, [], ◌∷◌, eqb, length, get_or}
use Rattle.book.specs.declared.grants.Line.{Line}

-- a number of 32 bits in two values: the low 16 bits, and the high ones
abbrev pub halves : ℕ → List ℕ
halves x = x % 65536 ∷ x / 65536 ∷ []

-- the line whose five numbers stand from an entry on
abbrev pub line_at : List ℕ → ℕ → Line
line_at entries i = record {
  x = get_or entries i 0;
  y = get_or entries (i + 1) 0;
  way = get_or entries (i + 2) 0;
  colour = get_or entries (i + 3) 0;
  crew = get_or entries (i + 4) 0;
}

-- the lines of entries, five to a line
abbrev pub fives : List ℕ → List Line
fives (x ∷ y ∷ way ∷ colour ∷ crew ∷ rest) = record { x = x; y = y; way = way; colour = colour; crew = crew } ∷ fives rest
fives (x ∷ y ∷ way ∷ colour ∷ []) = []
fives (x ∷ y ∷ way ∷ []) = []
fives (x ∷ y ∷ []) = []
fives (x ∷ []) = []
fives [] = []

-- a number of entries that is no multiple of five lists no line
unfoldable pub lines_of_entries : List ℕ → List Line
lines_of_entries entries = cond (eqb (length entries % 5) 0) (fives entries) []

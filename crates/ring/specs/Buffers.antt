-- Bytes: what a write leaves in a buffer, and whether two rows of bytes are the same.
use Rattle.std.specs.Prelude.{ℕ, ◌+◌, Bool, true, false, ◌&&◌, List, [], ◌∷◌, ◌++◌, eqb, length, take, drop}

-- the buffer with these bytes from a position on, and all else as it was
unfoldable pub written : List ℕ → ℕ → List ℕ → List ℕ
written buffer at bytes = (take at buffer ++ bytes) ++ drop (at + length bytes) buffer

-- the same bytes
abbrev pub same_bytes : List ℕ → List ℕ → Bool
same_bytes [] [] = true
same_bytes [] (y ∷ ys) = false
same_bytes (x ∷ xs) [] = false
same_bytes (x ∷ xs) (y ∷ ys) = eqb x y && same_bytes xs ys

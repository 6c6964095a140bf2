-- A line on its way into the text.
use Rattle.std.specs.Prelude.{ℕ, ◌+◌, ◌≤◌, ◌≡◌, cond, List, ◌∷◌, ◌++◌, ltb, length, take}
use Rattle.book_lines.specs.declared.spaces.Squeezing.{Squeezing}
use Rattle.book_lines.specs.Lines.{squeezed_from}

-- the room that is used up, with that of the space that may come next
abbrev pub used : Squeezing → ℕ
used so = so.size + cond so.gap 1 0

-- what is in the text, and what the rest of the line adds to it
abbrev pub squeezing : Squeezing → List ℕ → List ℕ → List ℕ
squeezing so text rest = take so.size text ++ squeezed_from (ltb 0 so.size) so.gap rest

-- one byte of the line is dealt with, whatever rest follows it, and one byte of room at the most is used up; the buffer keeps its length
pub record Added (so : Squeezing) (byte : ℕ) (before after : List ℕ) (r : Squeezing) : Type 0 where
  pub kept : length after ≡ length before
  pub room : used r ≤ used so + 1
  pub same : (rest : List ℕ) → squeezing r after rest ≡ squeezing so before (byte ∷ rest)

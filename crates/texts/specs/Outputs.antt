-- What a program prints, in a buffer that is lent for it.
use Rattle.std.specs.Prelude.{ℕ, ◌≤◌, ◌<◌, ◌≡◌, List, ◌++◌, length, drop}

-- a buffer of at least so many bytes begins with the text, whole, and the rest stays; a shorter one gets nothing
pub record Output (least : ℕ) (text before after : List ℕ) (size : ℕ) : Type 0 where
  pub short : length before < least → (size ≡ 0) × (after ≡ before)
  pub whole : least ≤ length before → size ≡ length text
  pub buffer : least ≤ length before → after ≡ text ++ drop (length text) before

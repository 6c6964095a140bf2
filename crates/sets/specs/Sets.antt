-- Sets of numbers below 512, as eight words of 64 bits: number z is bit z % 64 of word z / 64.
use Rattle.std.specs.Prelude.{ℕ, ◌+◌, ◌/◌, ◌%◌, ◌^◌, ◌<◌, ◌≤◌, ◌≡◌, Bool, true, false, List, eqb, get_or, MatchOption}
use Rattle.std.specs.declared.option.Option.{Option}

-- bit k of a word
abbrev pub bit : ℕ → ℕ → ℕ
bit word k = word / 2 ^ k % 2

-- z is in the set
unfoldable pub has : List ℕ → ℕ → Bool
has words z = eqb (bit (get_or words (z / 64) 0) (z % 64)) 1

-- no number of the set lies from a on and below b
abbrev pub NoneFrom : List ℕ → ℕ → ℕ → Type 0
NoneFrom words a b = (z : ℕ) → a ≤ z → z < b → has words z ≡ false

-- z is the first number of the set from `from` on and below `end`
pub record Next (words : List ℕ) (from end z : ℕ) : Type 0 where
  pub least : from ≤ z
  pub most : z < end
  pub passed : NoneFrom words from z
  pub member : has words z ≡ true

-- a step of a walk over a set from `from` on: it comes to the first number below `end`, if there is one, and goes on behind it
pub record Walks (words : List ℕ) (from end : ℕ) (r : Option ℕ) (words-after : List ℕ) (from-after end-after : ℕ) : Type 0 where
  pub words_kept : words-after ≡ words
  pub end_kept : end-after ≡ end
  pub came : MatchOption r (NoneFrom words from end × (end ≤ from-after)) (λ z. Next words from end z × (from-after ≡ z + 1))

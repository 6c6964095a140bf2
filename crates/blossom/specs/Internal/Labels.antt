-- The labels of the vertices in a search.
use Rattle.std.specs.Prelude.{Bool, true, false}

-- free: not reached yet; even and odd: in the tree, at an even or an odd distance from the root; frozen: in the tree of an earlier search
pub data Label : Type 0 where
  Free Even Odd Frozen : Label

-- in the tree, at an even distance from the root
abbrev pub even? : Label → Bool
even? Free = false
even? Even = true
even? Odd = false
even? Frozen = false

-- in the tree, at an odd distance from the root
abbrev pub odd? : Label → Bool
odd? Free = false
odd? Even = false
odd? Odd = true
odd? Frozen = false

-- not reached yet
abbrev pub free? : Label → Bool
free? Free = true
free? Even = false
free? Odd = false
free? Frozen = false

-- in the tree of an earlier search
abbrev pub frozen? : Label → Bool
frozen? Free = false
frozen? Even = false
frozen? Odd = false
frozen? Frozen = true

-- What the reader of a bundle finds, with what is left of the text behind it, as the definitions have it.
use Rattle.std.specs.Prelude.{ℕ, List, Option, Some, None}
use Rattle.book.specs.declared.grants.Line.{Line}
use Rattle.bundles.specs.declared.bundles.Bundle.{Bundle}
use Rattle.bundles.specs.Internal.Bundles.{Bundled}

-- a number and its crew, and what is left behind them
abbrev pub crewed_read : Option (ℕ × ℕ) → List ℕ → Option (ℕ × ℕ × List ℕ)
crewed_read None rest = None
crewed_read (Some both) rest = Some (both.0, both.1, rest)

-- a line of a bundle, and what is left behind it
abbrev pub asked_read : Option Line → List ℕ → Option (Line × List ℕ)
asked_read None rest = None
asked_read (Some l) rest = Some (l, rest)

-- a bundle of these lines, or neither
abbrev pub BundledIf : Option Bundle → Option (List Line) → Type 0
BundledIf None None = Unit
BundledIf None (Some ls) = ⊥
BundledIf (Some bundle) None = ⊥
BundledIf (Some bundle) (Some ls) = Bundled bundle ls

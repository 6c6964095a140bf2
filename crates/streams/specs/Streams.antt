-- Reading an input.
use Rattle.std.specs.Prelude.{ℕ, ◌≤◌, IfOk, Result}
use Rattle.std.specs.declared.io.Error.{Error}

-- what was read stands within a buffer of so many bytes
abbrev pub ReadFits : ℕ → Result ℕ Error → Type 0
ReadFits most r = IfOk r (λ count. count ≤ most)

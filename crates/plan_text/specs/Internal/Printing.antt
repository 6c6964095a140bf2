-- What is printed where the rules leave open which output it is.
use Rattle.std.specs.Prelude.{ℕ, List}
use Rattle.texts.specs.declared.writing.Writer.{Writer}
use Rattle.texts.specs.Internal.Writing.{Wrote}

-- an output of the right kind was written
pub record WroteRight (Right : List ℕ → Type 0) (before after : Writer) : Type 0 where
  pub output : List ℕ
  pub right : Right output
  pub wrote : Wrote before output after

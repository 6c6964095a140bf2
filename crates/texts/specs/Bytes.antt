-- Texts as bytes.
use Rattle.std.specs.Prelude.{ℕ, List, [], ◌∷◌}
use Prim.Native.Char.{code}
use Prim.Native.String.{String}
use Prim.Native.String as string

-- the bytes of a text, one for each of its characters
abbrev pub bytes : String → List ℕ
bytes string.[] = []
bytes (string.◌∷◌ c text) = code c ∷ bytes text

-- What ends with the text.
use Prim.Native.Nat.{ℕ}
use mathlib.Core.Path.{◌≡◌, refl}
use mathlib.Core.Bool.{Bool, true, false}
use mathlib.Core.List.{List, [], ◌∷◌}
use Rattle.std.specs.Prelude.{Some, None, IsTrue, ◌↔◌}
use Rattle.std.specs.Bool.{then_some}
use Rattle.texts.specs.Fields.{ended}

-- it is there exactly if nothing is left
pub ended_then : {A : Type 0} (rest : List ℕ) (b : Bool) (x : A) → (IsTrue b ↔ (rest ≡ [])) → then_some b x ≡ ended rest (Some x) None
ended_then [] true x h = refl
ended_then [] false x h = let z : false ≡ true = h.1 refl in cc
ended_then (y ∷ rest) true x h = let z : y ∷ rest ≡ [] = h.0 refl in cc
ended_then (y ∷ rest) false x h = refl

-- Vertices by their labels.
use Prim.Native.Nat.{ℕ}
use mathlib.Core.Path.{◌≡◌, refl}
use mathlib.Core.Bool.{true, false}
use Rattle.ring.proofs.Cases.{Apart, tell_apart}
use Rattle.blossom.specs.Internal.Labels.{Label, Free, Even, Odd, Frozen, even?, odd?}

-- a case split that keeps its equation
pub data LabelCase (l : Label) : Type 0 where
  is_free : l ≡ Free → LabelCase l
  is_even : l ≡ Even → LabelCase l
  is_odd : l ≡ Odd → LabelCase l
  is_frozen : l ≡ Frozen → LabelCase l

pub label_case : (l : Label) → LabelCase l
label_case Free = is_free refl
label_case Even = is_even refl
label_case Odd = is_odd refl
label_case Frozen = is_frozen refl

-- two vertices with different labels are different
pub apart_by_even : (label : ℕ → Label) (a b : ℕ) → even? (label a) ≡ true → even? (label b) ≡ false → Apart a b
apart_by_even label a b = tell_apart (λ z. even? (label z)) a b

pub apart_by_odd : (label : ℕ → Label) (a b : ℕ) → odd? (label a) ≡ true → odd? (label b) ≡ false → Apart a b
apart_by_odd label a b = tell_apart (λ z. odd? (label z)) a b

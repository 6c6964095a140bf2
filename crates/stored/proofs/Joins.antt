-- Tests that are not true.
use mathlib.Core.Path.{◌≡◌, refl, sym, ◌∙◌}
use mathlib.Core.Bool.{Bool, true, false, true≢false}

-- a test that is not true
pub never : (t : Bool) → (t ≡ true → ⊥) → t ≡ false
never true h = absurd (h refl)
never false h = refl

pub contrary : {A : Type 0} {t : Bool} → t ≡ true → t ≡ false → A
contrary e f = absurd (true≢false (sym e ∙ f))

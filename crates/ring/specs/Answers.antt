-- Answers in numbers. An operation answers by an enum; a definition beside each operation gives the number and the values of each of its
-- cases.
use Rattle.std.specs.Prelude.{ℕ, List, [], ◌∷◌}
use Rattle.ring.specs.declared.refusals.Refusal.{Refusal}
use Rattle.ring.specs.declared.refusals.Carried.{Carried}
use Rattle.ring.specs.declared.refusals.Carried.TheVariants.{None, One, Two}
use Rattle.ring.specs.Refusals.{number_of, carried_by}

-- 0 for success or the refusal's number, and the values that the one gives or the other carries
pub record InNumbers : Type 0 where
  pub number : ℕ
  pub values : List ℕ

-- success
abbrev pub gives : List ℕ → InNumbers
gives values = record { number = 0; values = values }

-- "4, 5 and 7 carry the request number, 8 both, the others none"
abbrev pub carried_values : Carried → List ℕ
carried_values None = []
carried_values (One first) = first ∷ []
carried_values (Two first second) = first ∷ second ∷ []

-- a refusal
abbrev pub refuses : Refusal → InNumbers
refuses r = record { number = number_of r; values = carried_values (carried_by r) }

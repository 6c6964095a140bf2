-- Crews: contractors who read their own orders, and the desk, which reads all.
use Rattle.std.specs.Prelude.{ℕ, Bool, cond, ◌&&◌, List, [], ◌∷◌, eqb, ltb}
use Rattle.ring.specs.declared.refusals.Refusal.TheVariants.{CrewNumber}
use Rattle.ring.specs.Refusals.{Verdict, refuse_if}
use Rattle.book.specs.declared.circuits.Circuit.{Circuit}
use Rattle.book.specs.Circuits.{is_live}

-- "26, crew above 999"
unfoldable pub crew_verdict : ℕ → Verdict
crew_verdict crew = refuse_if (ltb 999 crew) CrewNumber

-- the circuit "is live and its own", the crew's
abbrev pub is_own : ℕ → Circuit → Bool
is_own crew c = is_live c && eqb c.crew crew

-- a crew's "live orders", with their circuits
abbrev pub orders_in : ℕ → List Circuit → List Circuit
orders_in crew [] = []
orders_in crew (c ∷ cs) = cond (is_own crew c) (c ∷ orders_in crew cs) (orders_in crew cs)

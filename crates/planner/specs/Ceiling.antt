-- What any plan serves, against the counts and the ceiling that are printed with every plan.
use Rattle.std.specs.Prelude.{ℕ, ◌*◌, ◌-◌, ◌≤◌, List, length}
use Rattle.ring.specs.declared.requests.Request.{Request}
use Rattle.ring.specs.declared.fates.Fate.{Fate}
use Rattle.ring.specs.Requests.{ValidRequests}
use Rattle.ring.specs.Plans.{Feasible, KeepsOff, served}
use Rattle.ring.specs.Matchings.{Pair, IsMatching}
use Rattle.planner.specs.Plan.{ceiling_of}

-- no feasible plan that keeps off the seam serves more than this
abbrev pub ChainBound : ℕ → ℕ → List Request → ℕ → Type 0
ChainBound n w R most = (F : List Fate) → Feasible n w R F → KeepsOff (n - 1) R F → served F ≤ most

-- no matching is larger than this
abbrev pub MatchBound : List Request → ℕ → Type 0
MatchBound R most = (P : List Pair) → IsMatching R P → length P ≤ most

-- no feasible plan serves more than this
abbrev pub Ceiling : ℕ → ℕ → List Request → ℕ → Type 0
Ceiling n w R most = (F : List Fate) → Feasible n w R F → served F ≤ most

-- no feasible plan serves more than three halves of this
abbrev pub TwoThirds : ℕ → ℕ → List Request → ℕ → Type 0
TwoThirds n w R ours = (F : List Fate) → Feasible n w R F → 2 * served F ≤ 3 * ours

-- the law: the rule makes a ceiling of any bounds for the chain and for the matchings, as it does of the two counts
abbrev pub CeilingLaw : Type 0
CeilingLaw = (n w : ℕ) (R : List Request) → ValidRequests n R → (chain size : ℕ) → ChainBound n w R chain → MatchBound R size
    → Ceiling n w R (ceiling_of (length R) w chain size)

-- What holds during a search. M are the mates and r is the root; `label` and `base` are those of the vertices that earlier searches froze.
use Rattle.std.specs.Prelude.{ℕ, ◌<◌, ◌≡◌, Bool, true, false, not}
use Rattle.blossom.specs.Internal.Labels.{Label, Free, Even, free?, frozen?}
use Rattle.blossom.specs.Internal.State.{State, Invariant}

-- `done` are the scanned vertices: they have no free neighbour, and those that are adjacent have one base
pub record Scanned (adj : ℕ → ℕ → Bool) (s : State) (done : ℕ → Bool) : Type 0 where
  pub done_even : (x : ℕ) → done x ≡ true → s.label x ≡ Even
  pub done_free : (x y : ℕ) → done x ≡ true → s.label y ≡ Free → adj x y ≡ false
  pub done_base : (x y : ℕ) → done x ≡ true → done y ≡ true → adj x y ≡ true → s.base x ≡ s.base y

-- x is scanned against all vertices below n
pub record PartlyScanned (adj : ℕ → ℕ → Bool) (s : State) (done : ℕ → Bool) (x n : ℕ) : Type 0 where
  pub x_even : s.label x ≡ Even
  pub x_free : (y : ℕ) → y < n → s.label y ≡ Free → adj x y ≡ false
  pub x_base : (y : ℕ) → y < n → done y ≡ true → adj x y ≡ true → s.base x ≡ s.base y

-- while no vertex is being scanned
pub record Searching (adj : ℕ → ℕ → Bool) (M : ℕ → ℕ) (label : ℕ → Label) (base : ℕ → ℕ) (r : ℕ) (s : State) (done : ℕ → Bool)
    : Type 0 where
  pub invariant : Invariant adj M r s
  pub frozen_label : (z : ℕ) → frozen? (s.label z) ≡ not (free? (label z))
  pub frozen_base : (z : ℕ) → free? (label z) ≡ false → s.base z ≡ base z
  pub scanned : Scanned adj s done

-- while x is being scanned, and the vertices below n have been looked at
pub record Scanning (adj : ℕ → ℕ → Bool) (M : ℕ → ℕ) (label : ℕ → Label) (base : ℕ → ℕ) (r : ℕ) (s : State) (done : ℕ → Bool) (x n : ℕ)
    : Type 0 where
  pub search : Searching adj M label base r s done
  pub partly : PartlyScanned adj s done x n

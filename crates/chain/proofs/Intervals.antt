-- Intervals on a line and their colourings, apart from any ring: what the interval theorem says. Assumes nothing.
use Prim.Native.Nat.{ℕ, ◌+◌, ◌≤◌, ◌<◌}
use mathlib.Core.Path.{◌≡◌}
use mathlib.Core.Logic.{◌⊎◌, ◌≢◌}
use mathlib.Core.List.{List, [], ◌∷◌}
use lib.ListN.{length, get_or, replicate}
use Rattle.std.specs.Prelude.{Option, Some, None}
use Rattle.chain.specs.Rule.{pick, with_pick}

pub record Interval : Type 0 where
  pub start : ℕ
  pub finish : ℕ

-- the interval at a place; a place past the list has no meaning, and gets 0 and 0
abbrev pub interval : List Interval → ℕ → Interval
interval X k = get_or X k (record { start = 0; finish = 0 })

-- each interval finishes after it starts, and the finishes rise from m on
abbrev pub Sorted : ℕ → List Interval → Type 0
Sorted m [] = Unit {0}
Sorted m (v ∷ X) = (m ≤ v.finish) × (v.start < v.finish) × Sorted v.finish X

-- 1 for an interval that gets a colour
abbrev pub got : Option ℕ → ℕ
got (Some c) = 1
got None = 0

-- how many get a colour
abbrev pub count : List (Option ℕ) → ℕ
count [] = 0
count (p ∷ P) = got p + count P

-- a pick for each interval, in colours below w, and no two intervals of one colour overlap
pub record Colouring (w : ℕ) (X : List Interval) (P : List (Option ℕ)) : Type 0 where
  pub each : length P ≡ length X
  pub colours : (k c : ℕ) → get_or P k None ≡ Some c → c < w
  pub apart : (j k c : ℕ) → j ≢ k → get_or P j None ≡ Some c → get_or P k None ≡ Some c
      → ((interval X j).finish ≤ (interval X k).start) ⊎ ((interval X k).finish ≤ (interval X j).start)

-- the rule's picks, one interval after the other
abbrev pub picks : List Interval → List ℕ → List (Option ℕ)
picks [] latest = []
picks (v ∷ X) latest = pick latest v.start ∷ picks X (with_pick latest (pick latest v.start) v.finish)

-- the rule gives a colouring, and no colouring in as many colours serves more intervals
pub record BestColouring (w : ℕ) (X : List Interval) : Type 0 where
  pub colouring : Colouring w X (picks X (replicate w 0))
  pub most : (P : List (Option ℕ)) → Colouring w X P → count P ≤ count (picks X (replicate w 0))

-- the interval theorem: so it is for every list of intervals by rising finish
abbrev pub BestFitIsOptimal : Type 0
BestFitIsOptimal = (w : ℕ) (X : List Interval) → Sorted 0 X → BestColouring w X

-- p is allowed to an interval that starts at a
abbrev pub Allowed : List ℕ → ℕ → Option ℕ → Type 0
Allowed latest a (Some c) = (c < length latest) × (get_or latest c 0 ≤ a)
Allowed latest a None = Unit {0}

-- the picks, one for each interval, are allowed one after the other
pub data Replay : List Interval → List (Option ℕ) → List ℕ → Type 0 where
  done : {latest : List ℕ} → Replay [] [] latest
  next : {v : Interval} {p : Option ℕ} {X : List Interval} {P : List (Option ℕ)} {latest : List ℕ} → Allowed latest v.start p
      → Replay X P (with_pick latest p v.finish) → Replay (v ∷ X) (p ∷ P) latest

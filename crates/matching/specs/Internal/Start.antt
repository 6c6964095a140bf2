-- What the functions of the greedy start promise.
use Rattle.std.specs.Prelude.{ℕ, zero, suc, ◌<◌, ◌≤◌, max, ◌≡◌, true, List, length, get_or, take, sum_by}
use Rattle.std.specs.Int.Count.{ones}
use Rattle.ring.specs.declared.requests.Request.{Request}
use Rattle.neighbours.specs.Neighbours.{Neighbours}
use Rattle.blossom.specs.Internal.Rows.{Mates}
use Rattle.matching.specs.Internal.Adjacency.{adjacent}
use Rattle.matching.specs.Internal.Model.{entry}

-- how many bits of some words are set
abbrev pub bits_set : List ℕ → ℕ
bits_set words = sum_by ones words

-- the largest of the first m numbers of a list, or 0
abbrev pub largest_of : List ℕ → ℕ → ℕ
largest_of l zero = 0
largest_of l (suc i) = max (largest_of l i) (get_or l i 0)

-- for each of m requests, how many bits its set of neighbours has in the first words, and the largest of these sizes. The bits from m on
-- are left open: all that they can change is the order in which requests are matched.
pub record Measured (R : List Request) (m words : ℕ) (sizes : List ℕ) (largest : ℕ) : Type 0 where
  pub each : (i : ℕ) → i < m → (set : List ℕ) × Neighbours R i set × (get_or sizes i 0 ≡ bits_set (take words set))
  pub largest_is : largest ≡ largest_of sizes m

-- every number at its own place
pub record Identity (l : List ℕ) : Type 0 where
  pub places : length l ≡ 512
  pub own : (z : ℕ) → z < 512 → get_or l z 0 ≡ z

-- 512 places, of which those of the requests are a matching
pub record Matched (R : List Request) (mates : List ℕ) : Type 0 where
  pub few : length R ≤ 512
  pub places : length mates ≡ 512
  pub mates_are : Mates (adjacent R) (entry (length R) mates)

-- j is an exposed request that is adjacent to i
pub record Partner (R : List Request) (mates : List ℕ) (i j : ℕ) : Type 0 where
  pub inside : j < length R
  pub exposed : get_or mates j 0 ≡ j
  pub apart : j ≡ i → ⊥
  pub fits : adjacent R i j ≡ true

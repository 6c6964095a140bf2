-- What the arrays stand for between two searches and during one.
use Rattle.std.specs.Prelude.{ℕ, suc, ◌<◌, ◌≤◌, ◌≡◌, Bool, true, false, List, [], length, get_or}
use Rattle.ring.specs.declared.requests.Request.{Request}
use Rattle.ring.proofs.Counting.{count}
use Rattle.blossom.specs.Internal.Labels.{Label, Even, Odd, even?}
use Rattle.blossom.specs.Internal.State.{State}
use Rattle.blossom.specs.Internal.Searches.{Searching, Scanning}
use Rattle.blossom.specs.Internal.Certificate.{BetweenSearches}
use Rattle.matching.specs.declared.matchings.Search.{Search}
use Rattle.matching.specs.Internal.Adjacency.{adjacent}
use Rattle.matching.specs.Internal.Model.{entry, row_at, label_at, settled_at, among}

-- the sizes of the arrays, that there are requests for no more than their places, and that a base is a request
pub record Sized (R : List Request) (s : Search) : Type 0 where
  pub few : length R ≤ 512
  pub mates : length s.mates ≡ 512
  pub labels : length s.labels ≡ 512
  pub bases : length s.bases ≡ 512
  pub parents : length s.parents ≡ 512
  pub queue : length s.queue ≡ 512
  pub bases_inside : (z : ℕ) → z < length R → get_or s.bases z 0 < length R

-- a row of 512 numbers for each of m vertices
pub record Square (m : ℕ) (rows : List (List ℕ)) : Type 0 where
  pub many : m ≤ length rows
  pub wide : (i : ℕ) → i < m → length (get_or rows i []) ≡ 512

-- between two searches: every exposed vertex below n is frozen
pub record Settled (R : List Request) (s : Search) (n : ℕ) : Type 0 where
  pub sized : Sized R s
  pub label : ℕ → Label
  pub base : ℕ → ℕ
  pub label_is : (z : ℕ) → label z ≡ settled_at (length R) s.labels z
  pub base_is : (z : ℕ) → base z ≡ entry (length R) s.bases z
  pub between : BetweenSearches (adjacent R) (entry (length R) s.mates) label base n

-- the arrays and the rows stand for a state: parents where a vertex is odd, rows where it is even; the queue has the even ones
pub record Stands (R : List Request) (s : Search) (rows : List (List ℕ)) (state : State) : Type 0 where
  pub label_is : (z : ℕ) → state.label z ≡ label_at (length R) s.labels z
  pub base_is : (z : ℕ) → state.base z ≡ entry (length R) s.bases z
  pub parent_is : (z : ℕ) → state.label z ≡ Odd → state.parent z ≡ entry (length R) s.parents z
  pub row_is : (x z : ℕ) → state.label x ≡ Even → state.row x z ≡ row_at (length R) rows x z
  pub clock_is : state.clock ≡ s.clock
  pub clock_counts : s.clock ≡ count (λ z. even? (state.label z)) (length R)
  pub queued : (z : ℕ) → even? (state.label z) ≡ among s.queue s.clock z

-- during a search from r: the state, and the labels and bases of what earlier searches froze
pub record Standing (R : List Request) (r : ℕ) (s : Search) (rows : List (List ℕ)) : Type 0 where
  pub sized : Sized R s
  pub square : Square (length R) rows
  pub frozen_label : ℕ → Label
  pub frozen_base : ℕ → ℕ
  pub frozen_label_is : (z : ℕ) → frozen_label z ≡ settled_at (length R) s.labels z
  pub between : BetweenSearches (adjacent R) (entry (length R) s.mates) frozen_label frozen_base r
  pub state : State
  pub stands : Stands R s rows state

-- the first h vertices of the queue are scanned
pub record SearchAt (R : List Request) (r : ℕ) (s : Search) (rows : List (List ℕ)) (h : ℕ) : Type 0 where
  pub standing : Standing R r s rows
  pub scanned : ℕ → Bool
  pub scanned_is : (z : ℕ) → scanned z ≡ among s.queue h z
  pub within : h ≤ s.clock
  pub searching : Searching (adjacent R) (entry (length R) s.mates) standing.frozen_label standing.frozen_base r standing.state
      scanned

-- and x, the next one in the queue, is being scanned: the vertices below n have been looked at
pub record ScanAt (R : List Request) (r : ℕ) (s : Search) (rows : List (List ℕ)) (h x n : ℕ) : Type 0 where
  pub standing : Standing R r s rows
  pub scanned : ℕ → Bool
  pub scanned_is : (z : ℕ) → scanned z ≡ among s.queue h z
  pub next : h < s.clock
  pub current : x ≡ get_or s.queue h 0
  pub scanning : Scanning (adjacent R) (entry (length R) s.mates) standing.frozen_label standing.frozen_base r standing.state
      scanned x n

-- after a part of a search from r: either it has enlarged the matching, which covers r now, or it goes on as `Going` says
pub record SearchOutcome (R : List Request) (r : ℕ) (s : Search) (rows : List (List ℕ)) (done : Bool) (Going : Type 0) : Type 0 where
  pub square : Square (length R) rows
  pub enlarged : done ≡ true → Settled R s (suc r)
  pub going : done ≡ false → Going

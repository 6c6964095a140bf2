-- What the functions of a search ask and promise.
use Rattle.std.specs.Prelude.{ℕ, ◌+◌, ◌<◌, ◌≤◌, ◌≡◌, Bool, true, false, not, List, eqb, length, get_or, set}
use Rattle.ring.specs.declared.requests.Request.{Request}
use Rattle.ring.specs.Requests.{requests_of}
use Rattle.matching.specs.declared.labels.VertexLabel.{VertexLabel}
use Rattle.matching.specs.declared.labels.VertexLabel.TheVariants as kind
use Rattle.matching.specs.declared.matchings.Matching.{Matching}
use Rattle.matching.specs.Maximum.{pairs_of, is_frozen}
use Rattle.matching.specs.Internal.Adjacency.{adjacent}
use Rattle.matching.specs.declared.matchings.Search.{Search}
use Rattle.matching.specs.Internal.Arrays.{rest}
use Rattle.matching.specs.Internal.Labelling.{unlabelled, Relabelled}
use Rattle.matching.specs.Internal.Search.{Settled, SearchAt, ScanAt, SearchOutcome}

-- a vertex of this label is free, or even and of another class
abbrev pub is_apart : VertexLabel → Bool → Bool
is_apart kind.Free same = true
is_apart kind.Even same = not same
is_apart kind.Odd same = false
is_apart kind.FrozenEven same = false
is_apart kind.FrozenOdd same = false

-- and so in the arrays
unfoldable pub apart_in : List VertexLabel → List ℕ → ℕ → ℕ → Bool
apart_in labels bases x y = is_apart (get_or labels y kind.Free) (eqb (get_or bases x 0) (get_or bases y 0))

-- searches are due from `first` on
pub record Due (R : List Request) (mates : List ℕ) (labels : List VertexLabel) (bases : List ℕ) (first : ℕ) : Type 0 where
  pub settled : Settled R (rest mates labels bases) first
  pub most : first ≤ length R

-- the next one from `root`, which is exposed and not frozen, or none if that is the number of requests
pub record Rooted (R : List Request) (mates : List ℕ) (labels : List VertexLabel) (bases : List ℕ) (root : ℕ) : Type 0 where
  pub due : Due R mates labels bases root
  pub exposed : root < length R → get_or mates root 0 ≡ root
  pub free : root < length R → is_frozen (get_or labels root kind.Free) ≡ false

-- a state of the matching with its size, from whose root the next search is due
pub record Ready (R : List Request) (s : Matching) : Type 0 where
  pub rooted : Rooted R s.mates s.labels s.bases s.root
  pub counted : s.size ≡ length (pairs_of (length R) s.mates)

-- x is being scanned, and the next vertex y, below m, is its neighbour
pub record Reached (R : List Request) (r : ℕ) (s : Search) (rows : List (List ℕ)) (h x y m : ℕ) : Type 0 where
  pub at : ScanAt R r s rows h x y
  pub number : m ≡ length R
  pub inside : y < m
  pub neighbour : adjacent R x y ≡ true

-- the arrays and the rows stand for a search, from some root, with h vertices of its queue scanned
abbrev pub InSearch : List Request → Search → List (List ℕ) → ℕ → Type 0
InSearch R s rows h = (r : ℕ) × SearchAt R r s rows h

-- each search that the first ones stood for, with h vertices scanned, has enlarged the matching in the second ones, or goes on with n
-- scanned
abbrev pub Advanced : List Request → Search → List (List ℕ) → ℕ → Search → List (List ℕ) → Bool → ℕ → Type 0
Advanced R s rows h t after done n = (r : ℕ) → SearchAt R r s rows h → SearchOutcome R r t after done (SearchAt R r t after n)

-- they stand for a scan of x, in some search, that has come to its neighbour y
abbrev pub InScan : Search → List (List ℕ) → ℕ → ℕ → ℕ → Type 0
InScan s rows x y m = (ends : List ℕ) × (r : ℕ) × (h : ℕ) × Reached (requests_of ends) r s rows h x y m

-- each such scan has taken the edge to y: its search has enlarged the matching, or it goes on behind y
abbrev pub Stepped : Search → List (List ℕ) → ℕ → ℕ → ℕ → Search → List (List ℕ) → Bool → Type 0
Stepped s rows x y m t after done = (ends : List ℕ) (r h : ℕ) → Reached (requests_of ends) r s rows h x y m
    → SearchOutcome (requests_of ends) r t after done (ScanAt (requests_of ends) r t after h x (y + 1))

-- the arrays when a search from r begins
abbrev pub begun_arrays : Search → ℕ → List VertexLabel → Search
begun_arrays s r labels = record {
  mates = s.mates;
  labels = set labels r kind.Even;
  bases = set s.bases r r;
  parents = s.parents;
  queue = set s.queue 0 r;
  clock = 1;
}

-- a search from r has begun: r is even and the only one queued, all others that are not frozen are free, and the row of r is the matching
-- itself
pub record Begun (m r : ℕ) (s : Search) (rows : List (List ℕ)) (t : Search) (after : List (List ℕ)) : Type 0 where
  pub free : List VertexLabel
  pub unlabelling : Relabelled m s.labels free unlabelled
  pub arrays : t ≡ begun_arrays s r free
  pub row : after ≡ set rows r s.mates

-- with other labels
abbrev pub with_labels : Search → List VertexLabel → Search
with_labels s labels = record {
  mates = s.mates;
  labels = labels;
  bases = s.bases;
  parents = s.parents;
  queue = s.queue;
  clock = s.clock;
}

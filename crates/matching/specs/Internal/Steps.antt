-- The arrays after a step of a search.
use Rattle.std.specs.Prelude.{ℕ, ◌+◌, ◌<◌, ◌≡◌, Bool, true, false, not, cond, ◌&&◌, ◌||◌, List, [], ltb, length, get_or, set}
use Rattle.ring.proofs.Counting.{count}
use Rattle.sets.specs.Sets.{has}
use Rattle.matching.specs.declared.labels.VertexLabel.{VertexLabel}
use Rattle.matching.specs.declared.labels.VertexLabel.TheVariants as kind
use Rattle.matching.specs.declared.climbs.Marks.{Marks}
use Rattle.matching.specs.declared.climbs.Side.{Side}
use Rattle.matching.specs.declared.climbs.Side.TheVariants.{Neither, First, Second}
use Rattle.matching.specs.declared.matchings.Search.{Search}
use Rattle.matching.specs.Internal.Model.{among}

-- row x with x and y paired and c exposed
abbrev pub grown_row : List (List ℕ) → ℕ → ℕ → ℕ → List ℕ
grown_row rows x y c = set (set (set (get_or rows x []) x y) y x) c c

-- the tree has grown by y, below x, and its mate c
abbrev pub grown_arrays : Search → ℕ → ℕ → ℕ → Search
grown_arrays s x y c = record {
  mates = s.mates;
  labels = set (set s.labels y kind.Odd) c kind.Even;
  bases = set s.bases c c;
  parents = set s.parents y x;
  queue = set s.queue s.clock c;
  clock = s.clock + 1;
}

-- the mates are row x with x and y paired
abbrev pub enlarged_arrays : Search → List (List ℕ) → ℕ → ℕ → Search
enlarged_arrays s rows x y = record {
  mates = set (set (get_or rows x []) x y) y x;
  labels = s.labels;
  bases = s.bases;
  parents = s.parents;
  queue = s.queue;
  clock = s.clock;
}

-- with other bases
abbrev pub with_bases : Search → List ℕ → Search
with_bases s bases = record {
  mates = s.mates;
  labels = s.labels;
  bases = bases;
  parents = s.parents;
  queue = s.queue;
  clock = s.clock;
}

-- with other labels, and another queue
abbrev pub with_queue : Search → List VertexLabel → List ℕ → ℕ → Search
with_queue s labels queue clock = record {
  mates = s.mates;
  labels = labels;
  bases = s.bases;
  parents = s.parents;
  queue = queue;
  clock = clock;
}

-- a vertex with this side is off the cycle
abbrev pub off_cycle : Side → Bool
off_cycle Neither = true
off_cycle First = false
off_cycle Second = false

-- v is a vertex of the cycle, as the array of sides has it
unfoldable pub on_cycle : ℕ → List Side → ℕ → Bool
on_cycle m sides v = cond (ltb v m) (not (off_cycle (get_or sides v Neither))) false

-- the base of z is on, that is, the mate of a vertex on the cycle
abbrev pub base_on : List ℕ → List Bool → ℕ → Bool
base_on bases on z = get_or on (get_or bases z 0) false

-- z comes to the class of the blossom: it is on the cycle, or it is queued, so even, and its base is on
unfoldable pub joins_blossom : Search → Marks → ℕ → Bool
joins_blossom s marks z = has marks.cycle z || among s.queue s.clock z && base_on s.bases marks.on z

-- the new base of z, below m
unfoldable pub new_base : Search → Marks → ℕ → ℕ → ℕ
new_base s marks b z = cond (joins_blossom s marks z) b (get_or s.bases z 0)

-- the vertices of the cycle below n have become even, in their order, and come to the end of the queue
pub record Promoted (m n : ℕ) (sides : List Side) (labels : List VertexLabel) (queue : List ℕ) (clock : ℕ)
    (labels-after : List VertexLabel) (queue-after : List ℕ) (clock-after : ℕ) : Type 0 where
  pub labels_length : length labels-after ≡ length labels
  pub queue_length : length queue-after ≡ length queue
  pub label : (z : ℕ) → get_or labels-after z kind.Free ≡ cond (on_cycle n sides z) kind.Even (get_or labels z kind.Free)
  pub counted : clock-after ≡ clock + count (on_cycle m sides) n
  pub before : (i : ℕ) → i < clock → get_or queue-after i 0 ≡ get_or queue i 0
  pub queued : (z : ℕ) → among queue-after clock-after z ≡ (on_cycle n sides z || among queue clock z)

-- what taking an edge from x to y asks
pub record Attachable (s : Search) (rows : List (List ℕ)) (x y : ℕ) : Type 0 where
  pub from : x < 512
  pub to : y < 512
  pub mate : get_or s.mates y 0 < 512
  pub room : (get_or s.mates y 0 ≡ y → ⊥) → s.clock < 512
  pub from_row : x < length rows
  pub mate_row : get_or s.mates y 0 < length rows

-- what an edge from the even x to the free y does: it enlarges the matching, or the tree grows by y and its mate
pub data Attached (s : Search) (rows : List (List ℕ)) (x y : ℕ) (t : Search) (after : List (List ℕ)) (done : Bool) : Type 0 where
  enlarges : get_or s.mates y 0 ≡ y → done ≡ true → t ≡ enlarged_arrays s rows x y → after ≡ rows → Attached s rows x y t after done
  grows : (c : ℕ) → c ≡ get_or s.mates y 0 → (c ≡ y → ⊥) → done ≡ false → t ≡ grown_arrays s x y c
      → after ≡ set rows c (grown_row rows x y c)
      → Attached s rows x y t after done

-- Search read as functions on all numbers: what they say of the vertices below m, the number of requests.
use Rattle.std.specs.Prelude.{ℕ, zero, suc, Bool, false, cond, ◌||◌, List, [], eqb, ltb, get_or}
use Rattle.blossom.specs.Internal.Labels.{Label, Free, Even, Odd, Frozen}
use Rattle.matching.specs.declared.labels.VertexLabel.{VertexLabel}
use Rattle.matching.specs.declared.labels.VertexLabel.TheVariants as kind

-- the entry of a vertex; a number past the requests is its own
unfoldable pub entry : ℕ → List ℕ → ℕ → ℕ
entry m l z = cond (ltb z m) (get_or l z 0) z

-- row x of the rows
abbrev pub row_at : ℕ → List (List ℕ) → ℕ → ℕ → ℕ
row_at m rows x z = entry m (get_or rows x []) z

-- a label during a search
abbrev pub label_of : VertexLabel → Label
label_of kind.Free = Free
label_of kind.Even = Even
label_of kind.Odd = Odd
label_of kind.FrozenEven = Frozen
label_of kind.FrozenOdd = Frozen

-- the label of a vertex during a search; a number past the requests is free
unfoldable pub label_at : ℕ → List VertexLabel → ℕ → Label
label_at m l z = cond (ltb z m) (label_of (get_or l z kind.Free)) Free

-- a label between searches: what is frozen is even or odd, and all others are free again
abbrev pub settled_of : VertexLabel → Label
settled_of kind.Free = Free
settled_of kind.Even = Free
settled_of kind.Odd = Free
settled_of kind.FrozenEven = Even
settled_of kind.FrozenOdd = Odd

-- the label of a vertex between searches; a number past the requests is free
unfoldable pub settled_at : ℕ → List VertexLabel → ℕ → Label
settled_at m l z = cond (ltb z m) (settled_of (get_or l z kind.Free)) Free

-- z is one of the first k entries of the queue
abbrev pub among : List ℕ → ℕ → ℕ → Bool
among queue zero z = false
among queue (suc k) z = eqb z (get_or queue k 0) || among queue k z

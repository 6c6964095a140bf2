-- The rows of a blossom, entry by entry, as the arrays have them. All vertices are below m, the number of requests.
use Rattle.std.specs.Prelude.{ℕ, ◌<◌, ◌≤◌, ◌≡◌, Bool, false, cond, List, [], eqb, length, get_or, set}
use Rattle.sets.specs.Sets.{has}
use Rattle.blossom.specs.Internal.State.{below_test}
use Rattle.matching.specs.declared.labels.VertexLabel.{VertexLabel}
use Rattle.matching.specs.declared.labels.VertexLabel.TheVariants as kind
use Rattle.matching.specs.declared.climbs.Side.{Side}
use Rattle.matching.specs.declared.climbs.Side.TheVariants.{Neither, First, Second}
use Rattle.matching.specs.Internal.Model.{label_of}
use Rattle.matching.specs.Internal.Search.{Square}

-- the entry at z of row x
abbrev pub cell : List (List ℕ) → ℕ → ℕ → ℕ
cell rows x z = get_or (get_or rows x []) z 0

-- whether z is below the odd vertex v of the tree
unfoldable pub below_in : List (List ℕ) → List VertexLabel → List ℕ → ℕ → ℕ → Bool
below_in rows labels mates v z =
    below_test (label_of (get_or labels z kind.Free)) (eqb z v) (eqb (cell rows z v) (get_or mates v 0))
    (eqb (cell rows (get_or mates z 0) v) (get_or mates v 0))

-- row p below v and row q elsewhere, with p and q paired and v exposed
unfoldable pub absorbed_entry : List (List ℕ) → List VertexLabel → List ℕ → ℕ → ℕ → ℕ → ℕ → ℕ
absorbed_entry rows labels mates p q v z =
    cond (eqb z v) v (cond (eqb z p) q (cond (eqb z q) p (cond (below_in rows labels mates v z) (cell rows p z) (cell rows q z))))

-- labels and mates such that an absorbed row reads the rows of even vertices only
pub record Readable (m : ℕ) (labels : List VertexLabel) (mates : List ℕ) (x y : ℕ) : Type 0 where
  pub few : m ≤ 512
  pub inside : (z : ℕ) → z < m → get_or mates z 0 < m
  pub mate_even : (z : ℕ) → z < m → get_or labels z kind.Free ≡ kind.Odd → get_or labels (get_or mates z 0) kind.Free ≡ kind.Even
  pub x_inside : x < m
  pub y_inside : y < m
  pub x_even : get_or labels x kind.Free ≡ kind.Even
  pub y_even : get_or labels y kind.Free ≡ kind.Even

-- the rows after every vertex of the cycle has got its own
pub record Absorbed (m : ℕ) (rows after : List (List ℕ)) (labels : List VertexLabel) (mates : List ℕ) (sides : List Side)
    (x y : ℕ) : Type 0 where
  pub kept : (v : ℕ) → v < 512 → get_or labels v kind.Free ≡ kind.Even → get_or after v [] ≡ get_or rows v []
  pub first : (v z : ℕ) → v < m → z < m → get_or sides v Neither ≡ First → cell after v z ≡ absorbed_entry rows labels mates x y v z
  pub second : (v z : ℕ) → v < m → z < m → get_or sides v Neither ≡ Second → cell after v z ≡ absorbed_entry rows labels mates y x v z

-- what `below` reads: the rows and the mates of vertices below m
pub record Located (m : ℕ) (rows : List (List ℕ)) (mates : List ℕ) (v z : ℕ) : Type 0 where
  pub square : Square m rows
  pub few : m ≤ 512
  pub inside : (k : ℕ) → k < m → get_or mates k 0 < m
  pub v_inside : v < m
  pub z_inside : z < m

-- row p below v and row q elsewhere
unfoldable pub mixed_entry : List (List ℕ) → List VertexLabel → List ℕ → ℕ → ℕ → ℕ → ℕ → ℕ
mixed_entry rows labels mates p q v z = cond (below_in rows labels mates v z) (cell rows p z) (cell rows q z)

-- a vertex that does not join the blossom has its entry of row q in the row that v gets
abbrev pub Unmixed : ℕ → List (List ℕ) → List VertexLabel → List ℕ → List ℕ → ℕ → ℕ → ℕ → Type 0
Unmixed m rows labels mates joined p q v = (z : ℕ) → z < m → has joined z ≡ false → mixed_entry rows labels mates p q v z ≡ cell rows q z

-- the cycle's vertices and those that join the blossom, as sets: no other vertex gets a row, and no other entry of a row changes
pub record Sparse (m : ℕ) (rows : List (List ℕ)) (labels : List VertexLabel) (mates : List ℕ) (sides : List Side) (cycle joined : List ℕ)
    (x y : ℕ) : Type 0 where
  pub covered : (v : ℕ) → v < m → has cycle v ≡ false → get_or sides v Neither ≡ Neither
  pub first : (v : ℕ) → v < m → get_or sides v Neither ≡ First → Unmixed m rows labels mates joined x y v
  pub second : (v : ℕ) → v < m → get_or sides v Neither ≡ Second → Unmixed m rows labels mates joined y x v

-- the rows after v, above p and not above q, has got its own
pub record AbsorbedRow (m : ℕ) (rows after : List (List ℕ)) (labels : List VertexLabel) (mates : List ℕ) (p q v : ℕ) : Type 0 where
  pub row : List ℕ
  pub stored : after ≡ set rows v row
  pub wide : length row ≡ 512
  pub entries : (z : ℕ) → z < m → get_or row z 0 ≡ absorbed_entry rows labels mates p q v z

-- the rows after v, on the given side, has got its own
pub record AbsorbedVertex (m : ℕ) (rows after : List (List ℕ)) (labels : List VertexLabel) (mates : List ℕ) (side : Side)
    (x y v : ℕ) : Type 0 where
  pub square : Square m after
  pub others : (w : ℕ) → (w ≡ v → ⊥) → get_or after w [] ≡ get_or rows w []
  pub unmoved : side ≡ Neither → get_or after v [] ≡ get_or rows v []
  pub first : side ≡ First → (z : ℕ) → z < m → cell after v z ≡ absorbed_entry rows labels mates x y v z
  pub second : side ≡ Second → (z : ℕ) → z < m → cell after v z ≡ absorbed_entry rows labels mates y x v z

-- Rows: involutions whose pairs are adjacent and whose fixed points are known.
use Rattle.std.specs.Prelude.{ℕ, ◌≡◌, Bool, true, not, ◌&&◌, ◌||◌, eqb}
use Rattle.ring.proofs.Cases.{two, Three, three}

-- `adj x y` says that the vertices x and y are adjacent, in either order
abbrev pub Symmetric : (ℕ → ℕ → Bool) → Type 0
Symmetric adj = (a b : ℕ) → adj a b ≡ adj b a

-- M is an involution, and every vertex that it moves is adjacent to its image, its mate; a vertex that it does not move is exposed
abbrev pub Mates : (ℕ → ℕ → Bool) → (ℕ → ℕ) → Type 0
Mates adj M = (z : ℕ) → two (M (M z)) (eqb (M z) z || adj z (M z)) ≡ two z true

-- what a row says at z: where two steps lead, that it stays or goes along an edge, and whether it stays
abbrev pub row_at : (ℕ → ℕ → Bool) → (ℕ → ℕ) → ℕ → Three ℕ Bool Bool
row_at adj R z = three (R (R z)) (eqb (R z) z || adj z (R z)) (eqb (R z) z)

-- a row with the fixed points `fix`
abbrev pub IsRow : (ℕ → ℕ → Bool) → (ℕ → ℕ) → (ℕ → Bool) → Type 0
IsRow adj R fix = (z : ℕ) → row_at adj R z ≡ three z true (fix z)

-- the fixed points of the row of x, in the search from r: those of M, but x instead of r
abbrev pub fixed : (ℕ → ℕ) → ℕ → ℕ → ℕ → Bool
fixed M r x z = eqb z x || eqb (M z) z && not (eqb z r)

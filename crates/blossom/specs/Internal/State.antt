-- The state of a search, and what holds of it.
use Rattle.std.specs.Prelude.{ℕ, ◌<◌, ◌≤◌, ◌≡◌, Bool, true, false, not, ◌&&◌, ◌||◌, eqb}
use Rattle.ring.proofs.Cases.{two, three}
use Rattle.blossom.specs.Internal.Labels.{Label, Free, Even, Odd, Frozen, odd?}
use Rattle.blossom.specs.Internal.Rows.{Mates, IsRow, fixed}

-- the state of a search. clock: above the order of every even vertex. The base, order and row of a vertex have a meaning where it is even,
-- its parent where it is odd.
pub record State : Type 0 where
  pub label : ℕ → Label
  pub base : ℕ → ℕ
  pub parent : ℕ → ℕ
  pub order : ℕ → ℕ
  pub row : ℕ → ℕ → ℕ
  pub clock : ℕ

-- whether z hangs below the odd t in the tree: the row of z, or of its mate where z is odd, does not take t to t's mate
abbrev pub below_test : Label → Bool → Bool → Bool → Bool
below_test Free e a b = false
below_test Even e a b = not a
below_test Odd e a b = not e && not b
below_test Frozen e a b = false

-- z hangs below the odd t, in the state s with the mates M
abbrev pub below : (ℕ → ℕ) → State → ℕ → ℕ → Bool
below M s t z = below_test (s.label z) (eqb z t) (eqb (s.row z t) (M t)) (eqb (s.row (M z) t) (M t))

-- what holds all through a search from r, where M are the mates
pub record Invariant (adj : ℕ → ℕ → Bool) (M : ℕ → ℕ) (r : ℕ) (s : State) : Type 0 where
  -- the mates: which labels they have, and that the root r is the one exposed vertex of the tree
  pub mates : Mates adj M
  pub mate_free : (z : ℕ) → s.label z ≡ Free → s.label (M z) ≡ Free
  pub mate_frozen : (z : ℕ) → s.label z ≡ Frozen → s.label (M z) ≡ Frozen
  pub mate_odd : (z : ℕ) → s.label z ≡ Odd → s.label (M z) ≡ Even
  pub mate_even : (z : ℕ) → s.label z ≡ Even → eqb (M z) z ≡ eqb z r
  pub root : two (s.label r) (M r) ≡ two Even r
  -- the rows: each even vertex has one, that exposes it instead of r, and agrees with M outside of the tree
  pub rows : (x : ℕ) → s.label x ≡ Even → IsRow adj (s.row x) (fixed M r x)
  pub row_free : (x z : ℕ) → s.label x ≡ Even → s.label z ≡ Free → s.row x z ≡ M z
  pub row_frozen : (x z : ℕ) → s.label x ≡ Even → s.label z ≡ Frozen → s.row x z ≡ M z
  -- a row of a vertex below t does not leave what is below t; another row agrees there with M
  pub row_below : (t x z : ℕ) → s.label t ≡ Odd → s.label x ≡ Even → below M s t x ≡ true → below M s t z ≡ true
      → below M s t (s.row x z) ≡ true
  pub row_away : (t x z : ℕ) → s.label t ≡ Odd → s.label x ≡ Even → below M s t x ≡ false → below M s t z ≡ true
      → s.row x z ≡ M z
  -- the classes: the vertices of one base are matched to each other, but for the base
  pub base_even : (z : ℕ) → s.label z ≡ Even → two (s.label (s.base z)) (s.base (s.base z)) ≡ two Even (s.base z)
  pub inner_mate : (z : ℕ) → s.label z ≡ Even → eqb (s.base z) z ≡ false
      → three (s.label (M z)) (s.base (M z)) (eqb (M z) z) ≡ three Even (s.base z) false
  pub base_mate : (z : ℕ) → s.label z ≡ Even → s.base z ≡ z → (eqb (M z) z || odd? (s.label (M z))) ≡ true
  pub odd_mate : (t : ℕ) → s.label t ≡ Odd → s.base (M t) ≡ M t
  pub below_base : (t z : ℕ) → s.label t ≡ Odd → s.label z ≡ Even → below M s t z ≡ below M s t (s.base z)
  -- the tree: a base is the root, or hangs from its mate, which is odd, and this from its parent
  pub order_base : (z : ℕ) → s.label z ≡ Even → s.order (s.base z) ≤ s.order z
  pub order_clock : (z : ℕ) → s.label z ≡ Even → s.order z < s.clock
  pub parent_even : (t : ℕ) → s.label t ≡ Odd → s.label (s.parent t) ≡ Even
  pub parent_order : (t : ℕ) → s.label t ≡ Odd → s.order (s.parent t) < s.order (M t)
  pub below_root : (t z : ℕ) → s.label t ≡ Odd → s.label z ≡ Even → M (s.base z) ≡ s.base z → below M s t z ≡ false
  pub below_parent : (t z : ℕ) → s.label t ≡ Odd → s.label z ≡ Even → s.label (M (s.base z)) ≡ Odd
      → below M s t z ≡ (eqb t (M (s.base z)) || below M s t (s.parent (M (s.base z))))

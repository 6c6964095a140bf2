-- Laws of the arrays read as functions: what a store changes, and which vertices are below m.
use Prim.Native.Nat.{ℕ, zero, suc, ◌<◌, ◌≤◌}
use mathlib.Core.Path.{◌≡◌, refl, sym}
use mathlib.Core.Bool.{Bool, true, false, cond, ◌||◌}
use mathlib.Core.List.{List}
use native.Mathlib.Omega.{arith}
use lib.Dec.{eqb}
use lib.ListN.{length, get_or, set}
use lib.Seq.{get_or-set_same, get_or-set_other}
use borrow.Author.Tests.{eqb-false, lt-ltb}
use Rattle.ring.proofs.Cases.{eqb_refl, same, different, test, less, not_less, compare, impossible}
use Rattle.blossom.specs.Internal.Labels.{free?}
use Rattle.matching.specs.declared.labels.VertexLabel.{VertexLabel}
use Rattle.matching.specs.declared.labels.VertexLabel.TheVariants as kind
use Rattle.matching.specs.Internal.Model.{entry, label_of, label_at, settled_of, settled_at, among}

pub entry_inside : (m : ℕ) (l : List ℕ) (z : ℕ) → z < m → entry m l z ≡ get_or l z 0
unfolding entry
entry_inside m l z h = cc (lt-ltb z m h)

-- a store changes one entry
pub entry_set : (m : ℕ) (l : List ℕ) (i v z : ℕ) → i < m → m ≤ length l → entry m (set l i v) z ≡ cond (eqb z i) v (entry m l z)
unfolding entry
entry_set m l i v z h k = elim (test z i) [
  | same e f ↦ cc (lt-ltb i m h, get_or-set_same l i v 0 (omega arith))
  | different e ↦ cc (get_or-set_other l i z v 0 (eqb-false z i e.left))
]

pub label_at_set : (m : ℕ) (l : List VertexLabel) (i : ℕ) (v : VertexLabel) (z : ℕ) → i < m → m ≤ length l
    → label_at m (set l i v) z ≡ cond (eqb z i) (label_of v) (label_at m l z)
unfolding label_at
label_at_set m l i v z h k = elim (test z i) [
  | same e f ↦ cc (lt-ltb i m h, get_or-set_same l i v kind.Free (omega arith))
  | different e ↦ cc (get_or-set_other l i z v kind.Free (eqb-false z i e.left))
]

pub settled_at_set : (m : ℕ) (l : List VertexLabel) (i : ℕ) (v : VertexLabel) (z : ℕ) → i < m → m ≤ length l
    → settled_at m (set l i v) z ≡ cond (eqb z i) (settled_of v) (settled_at m l z)
unfolding settled_at
settled_at_set m l i v z h k = elim (test z i) [
  | same e f ↦ cc (lt-ltb i m h, get_or-set_same l i v kind.Free (omega arith))
  | different e ↦ cc (get_or-set_other l i z v kind.Free (eqb-false z i e.left))
]

-- the label of a vertex, in the array
pub label_at_inside : (m : ℕ) (l : List VertexLabel) (z : ℕ) → z < m → label_at m l z ≡ label_of (get_or l z kind.Free)
unfolding label_at
label_at_inside m l z h = cc (lt-ltb z m h)

-- a vertex of a tree is a request
pub not_free_inside : (m : ℕ) (l : List VertexLabel) (z : ℕ) → free? (label_at m l z) ≡ false → z < m
unfolding label_at
not_free_inside m l z e = elim (compare z m) [
  | less h i ↦ h
  | not_less h i ↦ impossible (cc)
]

-- the entries of the queue
pub among_set : (q : List ℕ) (k i v z : ℕ) → k ≤ i → among (set q i v) k z ≡ among q k z
among_set q zero i v z h = refl
among_set q (suc k) i v z h = cc (get_or-set_other q i k v 0 (λ e. omega arith), among_set q k i v z (omega arith))

pub among_add : (q : List ℕ) (k v z : ℕ) → k < length q → among (set q k v) (suc k) z ≡ (eqb z v || among q k z)
among_add q k v z h = cc (get_or-set_same q k v 0 h, among_set q k k v z (omega arith))

pub among_at : (q : List ℕ) (k i : ℕ) → i < k → among q k (get_or q i 0) ≡ true
among_at q zero i h = absurd (omega arith)
among_at q (suc k) i h = elim (test i k) [
  | same e f ↦ at_last i k e
  | different e ↦ earlier (eqb (get_or q i 0) (get_or q k 0)) (among_at q k i (omega (arith, eqb-false i k e.left)))
]
  where
    earlier : {b : Bool} (a : Bool) → b ≡ true → (a || b) ≡ true
    earlier true e = refl
    earlier false e = e

    at_last : (i k : ℕ) → i ≡ k → (eqb (get_or q i 0) (get_or q k 0) || among q k (get_or q i 0)) ≡ true
    at_last i k e = cc (eqb_refl (get_or q k 0))

pub among_inside : (q : List ℕ) (k m : ℕ) → ((i : ℕ) → i < k → get_or q i 0 < m) → (z : ℕ) → among q k z ≡ true → z < m
among_inside q zero m h z e = impossible (sym e)
among_inside q (suc k) m h z e = elim (test z (get_or q k 0)) [
  | same f g ↦ omega (arith, h k (omega arith))
  | different f ↦ among_inside q k m (λ i l. h i (omega arith)) z (cc)
]

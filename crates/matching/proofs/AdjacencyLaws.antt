-- Adjacent requests: the relation is symmetric, and both are in the list and different.
use Prim.Native.Nat.{ℕ, zero, suc, ◌<◌, ◌≤◌}
use mathlib.Core.Path.{◌≡◌, sym, ◌∙◌}
use mathlib.Core.Bool.{Bool, true, false, not, ◌&&◌}
use mathlib.Core.List.{List, [], ◌∷◌}
use native.Mathlib.Omega.{arith}
use lib.Dec.{eqb, ltb}
use lib.ListN.{length}
use borrow.Author.Tests.{ltb-true, lt-ltb}
use Rattle.ring.specs.declared.requests.Request.{Request}
use Rattle.ring.specs.Requests.{requests_of, request}
use Rattle.ring.specs.Chords.{compatible}
use Rattle.ring.proofs.Cases.{same, different, test, and_true}
use Rattle.ring.proofs.ChordLaws.{compatible_sym}
use Rattle.blossom.specs.Internal.Rows.{Symmetric, Mates}
use Rattle.matching.specs.Internal.Adjacency.{adjacent}

-- the smaller end of a request comes first
ordered : (ends : List ℕ) (i : ℕ) → (request (requests_of ends) i).a ≤ (request (requests_of ends) i).b
ordered [] i = omega arith
ordered (x ∷ []) i = omega arith
ordered (x ∷ y ∷ ends) zero = omega arith
ordered (x ∷ y ∷ ends) (suc i) = ordered ends i

-- the two sides of the test, with the requests in the other order
swapped : (d e p q c : Bool) → d ≡ e → (not d && (p && (q && c))) ≡ (not e && (q && (p && c)))
swapped d e true true c h = cc
swapped d e true false c h = cc
swapped d e false true c h = cc
swapped d e false false c h = cc

eqb_comm : (a b : ℕ) → eqb a b ≡ eqb b a
eqb_comm a b = elim (test a b) [
  | same e f ↦ cc
  | different d ↦ d.left ∙ sym d.right
]

module _ (ends : List ℕ) where
  pub adjacent_symmetric : Symmetric (adjacent (requests_of ends))
  unfolding adjacent
  adjacent_symmetric a b =
      let R = requests_of ends in
      rw (compatible_sym (request R a) (request R b) (ordered ends a) (ordered ends b))
      (swapped (eqb a b) (eqb b a) (ltb a (length R)) (ltb b (length R)) (compatible (request R b) (request R a)) (eqb_comm a b))

module _ (R : List Request) (a b : ℕ) where
  parts : (d p q c : Bool) → (d && (p && (q && c))) ≡ true → (q ≡ true) × (c ≡ true)
  parts d p q c e = and_true q c (and_true p (q && c) (and_true d (p && (q && c)) e).1).1

  pub adjacent_inside : adjacent R a b ≡ true → b < length R
  unfolding adjacent
  adjacent_inside e =
      ltb-true b (length R) (parts (not (eqb a b)) (ltb a (length R)) (ltb b (length R)) (compatible (request R a) (request R b)) e).0

  pub adjacent_are_compatible : adjacent R a b ≡ true → compatible (request R a) (request R b) ≡ true
  unfolding adjacent
  adjacent_are_compatible e = (parts (not (eqb a b)) (ltb a (length R)) (ltb b (length R)) (compatible (request R a) (request R b)) e).1

pub adjacent_if : (R : List Request) (a b : ℕ) → eqb a b ≡ false → a < length R → b < length R
    → compatible (request R a) (request R b) ≡ true → adjacent R a b ≡ true
unfolding adjacent
adjacent_if R a b n h k e = cc (lt-ltb a (length R) h, lt-ltb b (length R) k)

-- a matching stays inside of the list
pub mates_inside : (R : List Request) (M : ℕ → ℕ) → Mates (adjacent R) M → (z : ℕ) → z < length R → M z < length R
mates_inside R M w z h = elim (test (M z) z) [ same e f ↦ rw e h | different d ↦ adjacent_inside R z (M z) (cc (w z)) ]

-- The edges of a vertex, from the set of the requests that are compatible with it.
use Prim.Native.Nat.{ℕ, ◌<◌}
use mathlib.Core.Path.{◌≡◌, refl, sym, ap, ◌∙◌}
use mathlib.Core.Bool.{Bool, true, false, not, ◌&&◌}
use mathlib.Core.List.{List}
use lib.Dec.{eqb, ltb}
use lib.ListN.{length, get_or}
use borrow.Author.Tests.{eq-eqb, ne_eqb, lt-ltb}
use Rattle.ring.specs.declared.requests.Request.{Request}
use Rattle.ring.proofs.Cases.{yes, no, is, impossible}
use Rattle.sets.specs.Sets.{has}
use Rattle.neighbours.specs.Neighbours.{Neighbours}
use Rattle.matching.specs.declared.labels.VertexLabel.{VertexLabel}
use Rattle.matching.specs.declared.labels.VertexLabel.TheVariants as kind
use Rattle.matching.specs.Internal.Adjacency.{adjacent}
use Rattle.matching.specs.Internal.Progress.{is_apart, apart_in}

pub around_none : (R : List Request) (x : ℕ) (set : List ℕ) (y : ℕ) → Neighbours R x set → y < length R → has set y ≡ false
    → adjacent R x y ≡ false
unfolding adjacent
around_none R x set y N l e = let c = N.compatible y l in elim (is (eqb x y)) [
  | yes f ↦ cc
  | no f ↦ elim (is (ltb x (length R))) [ yes g ↦ cc (lt-ltb y (length R) l) | no g ↦ cc ]
]

pub around_some : (R : List Request) (x : ℕ) (set : List ℕ) (y : ℕ) → Neighbours R x set → x < length R → y < length R → (x ≡ y → ⊥)
    → has set y ≡ true
    → adjacent R x y ≡ true
unfolding adjacent
around_some R x set y N k l d e = cc (N.compatible y l, ne_eqb x y d, lt-ltb x (length R) k, lt-ltb y (length R) l)

-- a free vertex of the set of an even one
pub free_neighbour : (R : List Request) (labels : List VertexLabel) (around : List ℕ) (x y : ℕ) → Neighbours R x around
    → get_or labels x kind.Free ≡ kind.Even
    → x < length R → y < length R → has around y ≡ true → get_or labels y kind.Free ≡ kind.Free → adjacent R x y ≡ true
free_neighbour R labels around x y N even k l member free =
    around_some R x around y N k l
    (λ d. not_both (get_or labels x kind.Free) (get_or labels y kind.Free) even free (ap (λ (z : ℕ). get_or labels z kind.Free) d)) member
  where
    not_both : (a b : VertexLabel) → a ≡ kind.Even → b ≡ kind.Free → a ≡ b → ⊥
    not_both a b e f g = impossible (cc)

-- the edge from x to y is there, and y is free, or even and of another class
abbrev pub relevant : List Request → List VertexLabel → List ℕ → ℕ → ℕ → Bool
relevant R labels bases x y = apart_in labels bases x y && adjacent R x y

module _ (R : List Request) (labels : List VertexLabel) (bases : List ℕ) (x y : ℕ) where
  -- y is not in the set of x
  pub relevant_out : (around : List ℕ) → Neighbours R x around → y < length R → has around y ≡ false → relevant R labels bases x y ≡ false
  relevant_out around N l e = elim (is (apart_in labels bases x y)) [
    | yes f ↦ cc (around_none R x around y N l e)
    | no f ↦ cc (around_none R x around y N l e)
  ]

  -- it does not pass the test
  pub relevant_not : apart_in labels bases x y ≡ false → relevant R labels bases x y ≡ false
  relevant_not e = cc

  not_itself : get_or labels x kind.Free ≡ kind.Even → apart_in labels bases x y ≡ true → x ≡ y → ⊥
  unfolding apart_in
  not_itself even p e =
      itself (get_or labels y kind.Free) (get_or bases x 0) (get_or bases y 0) (sym (ap (λ (z : ℕ). get_or labels z kind.Free) e) ∙ even)
      (ap (λ (z : ℕ). get_or bases z 0) e) p
    where
      itself : (l : VertexLabel) (a b : ℕ) → l ≡ kind.Even → a ≡ b → is_apart l (eqb a b) ≡ true → ⊥
      itself l a b e f p = impossible (cc (eq-eqb a b f))

  -- it does, and is in the set of the even x
  pub relevant_found : (around : List ℕ) → Neighbours R x around → get_or labels x kind.Free ≡ kind.Even → x < length R → y < length R
      → has around y ≡ true
      → apart_in labels bases x y ≡ true → relevant R labels bases x y ≡ true
  relevant_found around N even k l e f = cc (around_some R x around y N k l (not_itself even f) e)

-- the test of the code, by the ways through it
module _ (labels : List VertexLabel) (bases : List ℕ) (x y : ℕ) where
  pub apart_free : get_or labels y kind.Free ≡ kind.Free → true ≡ apart_in labels bases x y
  unfolding apart_in
  apart_free e = cc

  pub apart_even : get_or labels y kind.Free ≡ kind.Even → not (eqb (get_or bases x 0) (get_or bases y 0)) ≡ apart_in labels bases x y
  unfolding apart_in
  apart_even e = cc

  pub apart_neither : (get_or labels y kind.Free ≡ kind.Free → ⊥) → (get_or labels y kind.Free ≡ kind.Even → ⊥)
      → false ≡ apart_in labels bases x y
  unfolding apart_in
  apart_neither e f = neither (get_or labels y kind.Free) (eqb (get_or bases x 0) (get_or bases y 0)) e f
    where
      neither : (l : VertexLabel) (same : Bool) → (l ≡ kind.Free → ⊥) → (l ≡ kind.Even → ⊥) → false ≡ is_apart l same
      neither kind.Free same e f = absurd (e refl)
      neither kind.Even same e f = absurd (f refl)
      neither kind.Odd same e f = refl
      neither kind.FrozenEven same e f = refl
      neither kind.FrozenOdd same e f = refl

-- An exposed request to which none is adjacent: a search from it would freeze it alone.
use Prim.Native.Nat.{ℕ, ◌+◌, ◌<◌, ◌≤◌}
use mathlib.Core.Path.{◌≡◌, refl, sym, ap, ◌∙◌}
use mathlib.Core.Bool.{Bool, true, false, not, ◌&&◌}
use mathlib.Core.List.{List, map}
use native.Mathlib.Omega.{arith}
use lib.Dec.{eqb, ltb}
use lib.ListN.{length, get_or, set, replicate, length-map, length-set, length-replicate, get_or-map}
use lib.Seq.{get_or-set_same, get_or-set_other}
use borrow.Author.Tests.{eqb-false, eq-eqb}
use Rattle.ring.specs.declared.requests.Request.{Request}
use Rattle.ring.proofs.Cases.{yes, no, is, same, different, test, less, not_less, compare, impossible}
use Rattle.sets.specs.Sets.{has, NoneFrom, Next}
use Rattle.neighbours.specs.Neighbours.{Neighbours}
use Rattle.blossom.specs.Internal.Rows.{Symmetric}
use Rattle.matching.specs.declared.labels.VertexLabel.{VertexLabel}
use Rattle.matching.specs.declared.labels.VertexLabel.TheVariants as kind
use Rattle.matching.specs.Internal.Adjacency.{adjacent, Alone}
use Rattle.matching.specs.declared.matchings.Search.{Search}
use Rattle.matching.specs.Maximum.{is_frozen}
use Rattle.matching.specs.Internal.Arrays.{rest}
use Rattle.matching.specs.Internal.Labelling.{unlabelled, frozen, Relabelled}
use Rattle.matching.specs.Internal.Model.{settled_at}
use Rattle.matching.specs.Internal.Search.{Settled, SearchAt}
use Rattle.matching.specs.Internal.Progress.{apart_in, begun_arrays}
use Rattle.matching.proofs.AroundLaws.{relevant, around_none, around_some}
use Rattle.matching.proofs.MaximumLaws.{square_blank}
use Rattle.matching.proofs.ModelLaws.{settled_at_set}
use Rattle.matching.proofs.ScanLaws.{scan_starts, scan_passes_to, scan_finishes}
use Rattle.matching.proofs.SearchLaws.{begun_settled, search_begins, search_ends, settled_alike}

-- a test holds if its opposite fails
pub not_not : (b : Bool) → not b ≡ false → b ≡ true
not_not true e = refl
not_not false e = sym e

-- r has no neighbour but itself in its set
pub alone_none : (R : List Request) (r : ℕ) (words : List ℕ) → Neighbours R r words
    → ((z : ℕ) → z < length R → (z ≡ r → ⊥) → has words z ≡ false) → Alone R r true
unfolding adjacent
alone_none R r words N others = record { none = λ e. none; some = λ e. impossible e }
  where
    outside : (z : ℕ) → ltb z (length R) ≡ false → adjacent R r z ≡ false
    outside z e = elim (is (eqb r z)) [ yes f ↦ cc | no f ↦ elim (is (ltb r (length R))) [ yes g ↦ cc | no g ↦ cc ] ]

    itself : (z : ℕ) → r ≡ z → adjacent R r z ≡ false
    itself z e = cc (eq-eqb r z e)

    none : (z : ℕ) → adjacent R r z ≡ false
    none z = elim (compare z (length R)) [
      | not_less h e ↦ outside z e
      | less h e ↦ elim (test z r) [
        | same f g ↦ itself z (sym f)
        | different f ↦ around_none R r words z N h (others z h (eqb-false z r f.left))
      ]
    ]

-- another one in its set is a neighbour
pub alone_not : (R : List Request) (r : ℕ) (words : List ℕ) → Neighbours R r words → r < length R → (z : ℕ) → z < length R
    → has words z ≡ true
    → (z ≡ r → ⊥)
    → Alone R r false
alone_not R r words N h z k member other = record {
  none = λ e. impossible (sym e);
  some = λ e. (z, around_some R r words z N h k (λ p. other (sym p)) member);
}

-- the walk over the set has come to r at most
pub alone_turn : (words : List ℕ) (r from end z : ℕ) → ((y : ℕ) → y < from → (y ≡ r → ⊥) → has words y ≡ false) → Next words from end z
    → z ≡ r
    → (y : ℕ) → y < z + 1 → (y ≡ r → ⊥) → has words y ≡ false
alone_turn words r from end z before at e y h apart = elim (compare y from) [
  | less l f ↦ before y l apart
  | not_less l f ↦ at.passed y l (omega arith)
]

-- it has come to its end
pub alone_over : (words : List ℕ) (r from end : ℕ) → ((y : ℕ) → y < from → (y ≡ r → ⊥) → has words y ≡ false) → NoneFrom words from end
    → (y : ℕ) → y < end → (y ≡ r → ⊥) → has words y ≡ false
alone_over words r from end before none y h apart = elim (compare y from) [
  | less l f ↦ before y l apart
  | not_less l f ↦ none y l h
]

-- labels without those of a search
abbrev cleared : List VertexLabel → List VertexLabel
cleared labels = map unlabelled labels

cleared_at : (labels : List VertexLabel) (z : ℕ) → get_or (cleared labels) z kind.Free ≡ unlabelled (get_or labels z kind.Free)
cleared_at labels z = get_or-map unlabelled labels z kind.Free

-- the end of a search leaves them as they are
frozen_cleared : (l : VertexLabel) → frozen (unlabelled l) ≡ unlabelled l
frozen_cleared kind.Free = refl
frozen_cleared kind.Even = refl
frozen_cleared kind.Odd = refl
frozen_cleared kind.FrozenEven = refl
frozen_cleared kind.FrozenOdd = refl

-- between searches they say the same
settled_cleared : (m : ℕ) (labels : List VertexLabel) (z : ℕ) → settled_at m (cleared labels) z ≡ settled_at m labels z
unfolding settled_at
settled_cleared m labels z = cc (cleared_at labels z, begun_settled (get_or labels z kind.Free))

none_relevant : (apart : Bool) (a : Bool) → a ≡ false → (apart && a) ≡ false
none_relevant true a e = e
none_relevant false a e = refl

module _ (R : List Request) (symmetric : Symmetric (adjacent R)) (mates : List ℕ) (labels : List VertexLabel) (bases : List ℕ) (r : ℕ)
    (S : Settled R (rest mates labels bases) r) (l : r < length R)
    (exposed : get_or mates r 0 ≡ r) (free : is_frozen (get_or labels r kind.Free) ≡ false) (none : (z : ℕ) → adjacent R r z ≡ false) where
  room : length R ≤ length labels
  room = omega (arith, S.sized.labels, S.sized.few)

  cleared_room : length R ≤ length (cleared labels)
  cleared_room = omega (arith, room, length-map labels unlabelled)

  -- the arrays and the rows of a search that begins at r, and the first vertex of its queue
  abbrev start : Search
  start = begun_arrays (rest mates labels bases) r (cleared labels)

  abbrev rows : List (List ℕ)
  rows = set (replicate 512 (replicate 512 0)) r mates

  abbrev first : ℕ
  first = get_or (set (replicate 512 0) 0 r) 0 0

  begun : SearchAt R r start rows 0
  begun =
      search_begins R (rest mates labels bases) r S (replicate 512 (replicate 512 0))
      (square_blank (length R) 512 (replicate 512 0) S.sized.few (length-replicate {A = ℕ} 512 0))
      l exposed free (cleared labels) (record { same_length = length-map labels unlabelled; at = λ z h. cleared_at labels z })

  root : first ≡ r
  root = get_or-set_same (replicate 512 0) 0 r 0 (omega (arith, length-replicate {A = ℕ} 512 0))

  irrelevant : (z : ℕ) → relevant R (set (cleared labels) r kind.Even) (set bases r r) first z ≡ false
  irrelevant z =
      rw root (none_relevant (apart_in (set (cleared labels) r kind.Even) (set bases r r) r z) (adjacent R r z) (none z))

  scanned : SearchAt R r start rows (0 + 1)
  scanned =
      let begins = scan_starts R symmetric r start rows 0 begun (omega arith) first refl in
      let passes = scan_passes_to R symmetric r start rows 0 first (length R) 0 begins (omega arith) (λ z a b. irrelevant z) in
      scan_finishes R symmetric r start rows 0 first (0 + length R) passes (omega arith)

  frozen_alone : Relabelled (length R) (set (cleared labels) r kind.Even) (set (cleared labels) r kind.FrozenEven) frozen
  frozen_alone = record {
    same_length = length-set (cleared labels) r kind.FrozenEven ∙ sym (length-set (cleared labels) r kind.Even);
    at = λ z h. elim (test z r) [
      | same e f ↦
          rw e
          (get_or-set_same (cleared labels) r kind.FrozenEven kind.Free inside
          ∙ sym (ap frozen (get_or-set_same (cleared labels) r kind.Even kind.Free inside)))
      | different e ↦
          let away = eqb-false z r e.left in
          get_or-set_other (cleared labels) r z kind.FrozenEven kind.Free away
          ∙ cc (
            cleared_at labels z,
            frozen_cleared (get_or labels z kind.Free),
            get_or-set_other (cleared labels) r z kind.Even kind.Free away,
          )
    ];
  }
    where
      inside : r < length (cleared labels)
      inside = omega (arith, cleared_room)

  -- it is frozen, as its own base
  pub alone_settles : Settled R (rest mates (set labels r kind.FrozenEven) (set bases r r)) (r + 1)
  alone_settles =
      settled_alike R _ (set labels r kind.FrozenEven) (replicate 512 0) (replicate 512 0) 0 (r + 1)
      (length-set labels r kind.FrozenEven ∙ S.sized.labels)
      (length-replicate {A = ℕ} 512 0) (length-replicate {A = ℕ} 512 0)
      (λ z. settled_at_set (length R) (cleared labels) r kind.FrozenEven z l cleared_room ∙ cc (
        settled_cleared (length R) labels z,
        settled_at_set (length R) labels r kind.FrozenEven z l room,
      ))
      (search_ends R symmetric r start rows (0 + 1) scanned (omega arith) (set (cleared labels) r kind.FrozenEven) frozen_alone)

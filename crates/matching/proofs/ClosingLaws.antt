-- The edge from x, which is being scanned, to the even y closes a blossom: what the functions on its rows ask, and what the walks up from x
-- and y give.
use Prim.Native.Nat.{ℕ, ◌<◌}
use mathlib.Core.Path.{◌≡◌, refl}
use mathlib.Core.Bool.{Bool, true, false, not, xor, cond, ◌&&◌, ◌||◌}
use mathlib.Core.List.{List}
use mathlib.Core.Logic.{◌⊎◌, inl, inr}
use native.Mathlib.Omega.{arith}
use lib.ListN.{length, get_or, replicate, get_or-replicate}
use borrow.Author.Tests.{lt-ltb}
use Rattle.ring.specs.declared.requests.Request.{Request}
use Rattle.ring.proofs.Cases.{yes, no, is, impossible}
use Rattle.sets.specs.Sets.{has}
use Rattle.sets.proofs.SetLaws.{has_none}
use Rattle.blossom.specs.Internal.Labels.{Even, odd?}
use Rattle.blossom.specs.Internal.Rows.{Symmetric}
use Rattle.blossom.specs.Internal.State.{below, Invariant}
use Rattle.blossom.proofs.Climbing.{sided}
use Rattle.blossom.proofs.Cycle.{cycle, Walk}
use Rattle.matching.specs.declared.labels.VertexLabel.TheVariants as kind
use Rattle.matching.specs.declared.climbs.Marks.{Marks}
use Rattle.matching.specs.declared.climbs.Side.TheVariants.{Neither, First, Second}
use Rattle.matching.specs.declared.matchings.Search.{Search}
use Rattle.matching.specs.Internal.Adjacency.{adjacent}
use Rattle.matching.specs.Internal.Bases.{Rebasable}
use Rattle.matching.specs.Internal.Climbs.{ClimbedBoth}
use Rattle.matching.specs.Internal.Model.{entry}
use Rattle.matching.specs.Internal.Rows.{Readable}
use Rattle.matching.specs.Internal.Search.{Standing, ScanAt}
use Rattle.matching.specs.Internal.Steps.{off_cycle, on_cycle}
use Rattle.matching.proofs.RowLaws.{off_neither}
use Rattle.matching.proofs.ModelLaws.{entry_inside}
use Rattle.matching.proofs.StandingLaws.{mate_inside, clock_most, label_told}
use Rattle.matching.proofs.LabellingLaws.{odd_only}
use Rattle.matching.proofs.CycleLaws.{side, side_of, on_cycle_lem, side_of_other, label_inside}
use Rattle.matching.proofs.ScanLaws.{queue_inside, even_labelled}
use Rattle.matching.proofs.WalkLaws.{scan_inside, walk, off, b_inside, marked_is, added_is, on_is}

-- what the two walks have marked
both_sides : (o a b : Bool) → cond (o && (b && not a)) Second (cond (o && (a && not b)) First Neither) ≡ side o a b
both_sides true true true = refl
both_sides true true false = refl
both_sides true false true = refl
both_sides true false false = refl
both_sides false a b = refl

any_side : (o a b : Bool) → (o && (b && not a) || (o && (a && not b) || false)) ≡ (o && xor a b)
unfolding xor
any_side true true true = refl
any_side true true false = refl
any_side true false true = refl
any_side true false false = refl
any_side false a b = refl

-- before the walks
abbrev pub unmarked : Marks
unmarked = record { sides = replicate 512 Neither; cycle = replicate 8 0; on = replicate 512 false }

-- the blossom, with the base b: the sides are those of its cycle, the set has it, and the marked bases hang from it
pub record Closed (R : List Request) (r : ℕ) (s : Search) (rows : List (List ℕ)) (h x y b : ℕ) (found : Marks) : Type 0 where
  pub at : ScanAt R r s rows h x y
  pub even : at.standing.state.label y ≡ Even
  pub neighbour : adjacent R x y ≡ true
  pub inside : b < length R
  pub walked : Walk (entry (length R) s.mates) at.standing.state (cycle (entry (length R) s.mates) at.standing.state x y) x b
  pub ended : cycle (entry (length R) s.mates) at.standing.state x y (entry (length R) s.mates b) ≡ false
  pub right : (v : ℕ) → v < length R → get_or found.sides v Neither ≡ side_of (entry (length R) s.mates) at.standing.state x y v
  pub cycle_words : length found.cycle ≡ 8
  pub cycle_is : (v : ℕ) → v < length R → has found.cycle v ≡ cycle (entry (length R) s.mates) at.standing.state x y v
  pub on_is : (c : ℕ) → c < length R
      → get_or found.on c false ≡ cycle (entry (length R) s.mates) at.standing.state x y
      (entry (length R) s.mates c)

module _ (R : List Request) (symmetric : Symmetric (adjacent R)) (r : ℕ) (s : Search) (rows : List (List ℕ)) (h x y : ℕ) where
  abbrev m : ℕ
  m = length R

  abbrev M : ℕ → ℕ
  M = entry (length R) s.mates

  pub labelled_even : (at : ScanAt R r s rows h x y) → y < length R → get_or s.labels y kind.Free ≡ kind.Even
      → at.standing.state.label y ≡ Even
  labelled_even at l e = label_told R s rows at.standing.state at.standing.stands y kind.Even l e

  -- what the functions on the rows of a blossom ask
  module _ (at : ScanAt R r s rows h x y) (l : y < length R) (e : get_or s.labels y kind.Free ≡ kind.Even) where
    pub readable : Readable (length R) s.labels s.mates x y
    readable =
        let T = at.standing in let I = at.scanning.search.invariant in
        record {
          few = T.sized.few;
          inside = mate_inside R r s rows T;
          mate_even = λ z k o.
              let f = label_told R s rows T.state T.stands z kind.Odd k o in
              even_labelled R r s rows T (get_or s.mates z 0) (cc (I.mate_odd z (cc), entry_inside m s.mates z k));
          x_inside = scan_inside R symmetric r s rows h x y at;
          y_inside = l;
          x_even = even_labelled R r s rows T x at.scanning.partly.x_even;
          y_even = e;
        }

    -- after the walks from both ends
    pub closed : adjacent R x y ≡ true → {b : ℕ} {after : Marks}
        → ClimbedBoth rows s x y b unmarked after
        → Closed R r s rows h x y b after
    closed a {b} {after} B =
        let T = at.standing in let state = T.state in let I = at.scanning.search.invariant in
        let ex = at.scanning.partly.x_even in let ey = labelled_even at l e in
        let none : Marks = unmarked in let middle = B.middle in let c = B.other in
        let E = B.first in let F = B.second in
        let any : (v : ℕ) → (sided M state y x v || (sided M state x y v || false)) ≡ cycle M state x y v = λ v.
        any_side (odd? (state.label v)) (below M state v x) (below M state v y)
        in
        record {
          at = at;
          even = ey;
          neighbour = a;
          inside = b_inside R symmetric r s rows T I x y ex ey First b none middle E;
          walked = walk R symmetric r s rows T I x y ex ey First b none middle E;
          ended = off R symmetric r s rows T I x y ex ey First b none middle E;
          right = λ v k. cc (
            get_or-replicate 512 v Neither Neither (omega (arith, T.sized.few)),
            marked_is R symmetric r s rows T I x y ex ey First b none middle E v,
            marked_is R symmetric r s rows T I y x ey ex Second c middle after F v,
            both_sides (odd? (state.label v)) (below M state v x) (below M state v y),
          );
          cycle_words = F.marked.cycle_words;
          cycle_is = λ v k. cc (
            has_none v,
            added_is R symmetric r s rows T I x y ex ey First b none middle E v,
            added_is R symmetric r s rows T I y x ey ex Second c middle after F v,
            any v,
          );
          on_is = λ v k. cc (
            get_or-replicate 512 v false false (omega (arith, T.sized.few)),
            on_is R symmetric r s rows T I x y ex ey First b none middle E v k,
            on_is R symmetric r s rows T I y x ey ex Second c middle after F v k,
            any (get_or s.mates v 0),
            entry_inside m s.mates v k,
          );
        }

  module _ {b : ℕ} {found : Marks} (C : Closed R r s rows h x y b found) where
    abbrev T : Standing R r s rows
    T = C.at.standing

    abbrev I : Invariant (adjacent R) M r C.at.standing.state
    I = C.at.scanning.search.invariant

    pub cycle_odd_or_none : (v : ℕ) → v < length R → (get_or found.sides v Neither ≡ Neither) ⊎ (get_or s.labels v kind.Free ≡ kind.Odd)
    cycle_odd_or_none v k = elim (is (odd? (T.state.label v))) [
      | yes f ↦
          inr (odd_only (get_or s.labels v kind.Free) (cc (label_inside R r s rows T.state T.stands I v k)))
      | no f ↦ inl (side_of_other R r s rows T.state T.stands I x y found.sides C.right v k f)
    ]

    -- the set covers the cycle
    pub covered : (v : ℕ) → v < length R → has found.cycle v ≡ false → get_or found.sides v Neither ≡ Neither
    unfolding on_cycle
    covered v k n = elim (is (off_cycle (get_or found.sides v Neither))) [
      | yes e ↦ off_neither (get_or found.sides v Neither) e
      | no e ↦
          impossible (cc (
            C.cycle_is v k,
            on_cycle_lem R r s rows T.state T.stands I x y found.sides C.right v,
            lt-ltb v m k,
          ))
    ]

    pub rebasable : (k : ℕ) → k < length R → Rebasable (length R) k s
    rebasable k inside = record {
      few = T.sized.few;
      base_inside = inside;
      clock_fits = omega (arith, T.sized.few, clock_most R s rows T.state T.stands);
      bases_inside = T.sized.bases_inside;
      queue_inside = queue_inside R symmetric r s rows h x y C.at;
    }

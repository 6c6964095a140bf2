-- A vertex that does not come to the class of the blossom keeps its entry in the rows that the cycle's vertices get.
use Prim.Native.Nat.{ℕ, ◌<◌}
use mathlib.Core.Path.{◌≡◌, refl, sym, ◌∙◌}
use mathlib.Core.Bool.{Bool, true, false, ◌&&◌, ◌||◌}
use mathlib.Core.List.{List}
use lib.ListN.{length, get_or}
use Rattle.ring.specs.declared.requests.Request.{Request}
use Rattle.ring.proofs.Cases.{yes, no, is, two, impossible}
use Rattle.sets.specs.Sets.{has}
use Rattle.blossom.specs.Internal.Labels.{Label, Free, Even, Odd, Frozen, even?, odd?}
use Rattle.blossom.specs.Internal.Rows.{Symmetric}
use Rattle.blossom.specs.Internal.State.{State, Invariant}
use Rattle.blossom.proofs.Cycle.{cycle, cycle_symmetric}
use Rattle.blossom.proofs.Kept.{kept_either}
use Rattle.matching.specs.Internal.Adjacency.{adjacent}
use Rattle.matching.specs.declared.climbs.Marks.{Marks}
use Rattle.matching.specs.declared.climbs.Side.TheVariants.{Neither, First, Second}
use Rattle.matching.specs.declared.matchings.Search.{Search}
use Rattle.matching.specs.Internal.Model.{entry}
use Rattle.matching.specs.Internal.Rows.{mixed_entry, Unmixed}
use Rattle.matching.specs.Internal.Steps.{joins_blossom}
use Rattle.matching.proofs.CycleLaws.{row_cell, below_arrays, side_one, side_two}
use Rattle.matching.proofs.ClosingLaws.{Closed}
use Rattle.matching.proofs.BlossomLaws.{joins_is}

odd_label : (l : Label) → odd? l ≡ true → l ≡ Odd
odd_label Free e = cc
odd_label Even e = cc
odd_label Odd e = refl
odd_label Frozen e = cc

neither : (a b : Bool) → (a || b) ≡ false → two a b ≡ two false false
neither true b e = impossible e
neither false b e = cc

module _ (R : List Request) (symmetric : Symmetric (adjacent R)) (r : ℕ) (s : Search) (rows : List (List ℕ)) (h x y : ℕ)
    {b : ℕ} {found : Marks} (C : Closed R r s rows h x y b found)
    (joined : List ℕ)
    (covers : (z : ℕ) → z < length R → joins_blossom s found z ≡ true
    → has joined z ≡ true) where
  abbrev state : State
  state = C.at.standing.state

  abbrev M : ℕ → ℕ
  M = entry (length R) s.mates

  abbrev A : ℕ → Bool
  A = cycle M state x y

  abbrev I : Invariant (adjacent R) M r state
  I = C.at.scanning.search.invariant

  ex : state.label x ≡ Even
  ex = C.at.scanning.partly.x_even

  away : (z : ℕ) → z < length R → has joined z ≡ false → two (A z) (even? (state.label z) && A (M (state.base z))) ≡ two false false
  away z l e = neither (A z) (even? (state.label z) && A (M (state.base z)))
      (sym (joins_is R symmetric r s rows h x y C z l)
      ∙ elim (is (joins_blossom s found z)) [
        | yes f ↦ impossible (cc (covers z l f))
        | no f ↦ f
      ])

  pub unmixed_first : (v : ℕ) → v < length R → get_or found.sides v Neither ≡ First → Unmixed (length R) rows s.labels s.mates joined x y v
  unfolding mixed_entry
  unmixed_first v hv e z hz f =
      let o = side_one R r s rows state C.at.standing.stands I x y found.sides C.right v hv e in
      let j = away z hz f in
      let k = kept_either (adjacent R) symmetric M r state I x y v ex C.even (odd_label (state.label v) (cc)) (cc) (cc) z (cc) (cc) in
      cc (
        below_arrays R r s rows state C.at.standing.stands I v z hv hz,
        row_cell R r s rows state C.at.standing.stands I x z ex hz,
        row_cell R r s rows state C.at.standing.stands I y z C.even hz,
      )

  pub unmixed_second : (v : ℕ) → v < length R → get_or found.sides v Neither ≡ Second → Unmixed (length R) rows s.labels s.mates joined y x v
  unfolding mixed_entry
  unmixed_second v hv e z hz f =
      let o = side_two R r s rows state C.at.standing.stands I x y found.sides C.right v hv e in
      let j = away z hz f in
      let c = cycle_symmetric M state x y z in
      let d = cycle_symmetric M state x y (M (state.base z)) in
      let k = kept_either (adjacent R) symmetric M r state I y x v C.even ex (odd_label (state.label v) (cc)) (cc) (cc) z (cc) (cc) in
      cc (
        below_arrays R r s rows state C.at.standing.stands I v z hv hz,
        row_cell R r s rows state C.at.standing.stands I x z ex hz,
        row_cell R r s rows state C.at.standing.stands I y z C.even hz,
      )

-- The arrays of a blossom, in the words of the theory: the sides are the cycle, and the absorbed rows its rows.
use Prim.Native.Nat.{ℕ, ◌<◌, ◌≤◌}
use mathlib.Core.Path.{◌≡◌, refl, sym, ◌∙◌}
use mathlib.Core.Bool.{Bool, true, false, not, xor, cond, ◌&&◌}
use mathlib.Core.List.{List, []}
use native.Mathlib.Omega.{arith}
use lib.Dec.{eqb, ltb}
use lib.ListN.{length, get_or}
use borrow.Author.Tests.{ne_eqb, lt-ltb}
use Rattle.ring.specs.declared.requests.Request.{Request}
use Rattle.ring.proofs.Cases.{yes, no, is, three, less, not_less, compare, impossible}
use Rattle.blossom.specs.Internal.Labels.{Even, odd?}
use Rattle.blossom.specs.Internal.State.{State, below, Invariant}
use Rattle.blossom.proofs.LabelLaws.{is_free, is_even, is_odd, is_frozen, label_case}
use Rattle.blossom.proofs.Absorb.{absorbed_row}
use Rattle.blossom.proofs.Cycle.{cycle}
use Rattle.matching.specs.declared.labels.VertexLabel.TheVariants as kind
use Rattle.matching.specs.declared.climbs.Side.{Side}
use Rattle.matching.specs.declared.climbs.Side.TheVariants.{Neither, First, Second}
use Rattle.matching.specs.declared.matchings.Search.{Search}
use Rattle.matching.specs.Internal.Adjacency.{adjacent}
use Rattle.matching.specs.Internal.Model.{entry, label_of}
use Rattle.matching.specs.Internal.Rows.{cell, below_in, absorbed_entry}
use Rattle.matching.specs.Internal.Search.{Stands}
use Rattle.matching.specs.Internal.Steps.{off_cycle, on_cycle}
use Rattle.matching.proofs.ModelLaws.{entry_inside, label_at_inside}
use Rattle.matching.proofs.StandingLaws.{even_inside, odd_inside, entry_outside}

-- on which side of the edge from x to y the cycle has a vertex, by whether it is odd, above x and above y
abbrev pub side : Bool → Bool → Bool → Side
side o a b = cond o (cond a (cond b Neither First) (cond b Second Neither)) Neither

abbrev pub side_of : (ℕ → ℕ) → State → ℕ → ℕ → ℕ → Side
side_of M state x y v = side (odd? (state.label v)) (below M state v x) (below M state v y)

module _ (R : List Request) (r : ℕ) (s : Search) (rows : List (List ℕ)) (state : State) (S : Stands R s rows state)
    (I : Invariant (adjacent R) (entry (length R) s.mates) r state) where
  abbrev m : ℕ
  m = length R

  abbrev M : ℕ → ℕ
  M = entry (length R) s.mates

  pub row_cell : (x z : ℕ) → state.label x ≡ Even → z < m → state.row x z ≡ cell rows x z
  row_cell x z e h = S.row_is x z e ∙ entry_inside m (get_or rows x []) z h

  pub row_outside : (x z : ℕ) → state.label x ≡ Even → ltb z m ≡ false → state.row x z ≡ z
  row_outside x z e h = S.row_is x z e ∙ entry_outside m (get_or rows x []) z h

  pub label_inside : (z : ℕ) → z < m → state.label z ≡ label_of (get_or s.labels z kind.Free)
  label_inside z h = S.label_is z ∙ label_at_inside m s.labels z h

  pub below_arrays : (v z : ℕ) → v < m → z < m → below_in rows s.labels s.mates v z ≡ below M state v z
  unfolding below_in
  below_arrays v z hv hz =
      let l = label_inside z hz in let mv = entry_inside m s.mates v hv in let mz = entry_inside m s.mates z hz in
      elim (label_case (state.label z)) [
        | is_free e ↦ cc
        | is_even e ↦ cc (row_cell z v e hv)
        | is_odd e ↦ cc (row_cell (M z) v (I.mate_odd z e) hv)
        | is_frozen e ↦ cc
      ]

  pub row_below : (x v : ℕ) → state.label x ≡ Even → v < m → eqb (cell rows x v) (get_or s.mates v 0) ≡ not (below M state v x)
  row_below x v ex h = let e = row_cell x v ex h in let f = entry_inside m s.mates v h in
      elim (is (eqb (cell rows x v) (get_or s.mates v 0))) [ yes g ↦ cc | no g ↦ cc ]

  module _ (x y : ℕ) (sides : List Side) (sided : (v : ℕ) → v < m → get_or sides v Neither ≡ side_of M state x y v) where
    some_side : (o a b : Bool) → not (off_cycle (side o a b)) ≡ (o && xor a b)
    unfolding xor
    some_side true true true = refl
    some_side true true false = refl
    some_side true false true = refl
    some_side true false false = refl
    some_side false a b = refl

    pub on_cycle_lem : (v : ℕ) → on_cycle m sides v ≡ cycle M state x y v
    unfolding on_cycle
    on_cycle_lem v = elim (compare v m) [
      | less h i ↦ cc (sided v h, some_side (odd? (state.label v)) (below M state v x) (below M state v y))
      | not_less h i ↦ elim (label_case (state.label v)) [
        | is_free e ↦ cc
        | is_even e ↦ cc
        | is_odd e ↦ absurd (outside v h (odd_inside R s rows state S v e))
        | is_frozen e ↦ cc
      ]
    ]
      where
        outside : (v : ℕ) → m ≤ v → v < m → ⊥
        outside v h k = omega arith

    first_side : (o a b : Bool) → (o && xor a b) ≡ true → a ≡ true → side o a b ≡ First
    unfolding xor
    first_side true true true e f = cc
    first_side true true false e f = refl
    first_side true false b e f = cc
    first_side false a b e f = cc

    second_side : (o a b : Bool) → (o && xor a b) ≡ true → a ≡ false → side o a b ≡ Second
    unfolding xor
    second_side true true b e f = cc
    second_side true false true e f = refl
    second_side true false false e f = cc
    second_side false a b e f = cc

    pub side_first : (v : ℕ) → v < m → cycle M state x y v ≡ true → below M state v x ≡ true → get_or sides v Neither ≡ First
    side_first v h a b = sided v h ∙ first_side (odd? (state.label v)) (below M state v x) (below M state v y) a b

    pub side_second : (v : ℕ) → v < m → cycle M state x y v ≡ true → below M state v x ≡ false → get_or sides v Neither ≡ Second
    side_second v h a b = sided v h ∙ second_side (odd? (state.label v)) (below M state v x) (below M state v y) a b

    -- and what a side says
    one_side : (o a b : Bool) → side o a b ≡ First → three o a b ≡ three true true false
    one_side true true true e = cc
    one_side true true false e = refl
    one_side true false true e = cc
    one_side true false false e = cc
    one_side false a b e = cc

    two_side : (o a b : Bool) → side o a b ≡ Second → three o a b ≡ three true false true
    two_side true true true e = cc
    two_side true true false e = cc
    two_side true false true e = refl
    two_side true false false e = cc
    two_side false a b e = cc

    pub side_one : (v : ℕ) → v < m → get_or sides v Neither ≡ First
        → three (odd? (state.label v)) (below M state v x) (below M state v y) ≡ three true true false
    side_one v h e = one_side (odd? (state.label v)) (below M state v x) (below M state v y) (sym (sided v h) ∙ e)

    pub side_two : (v : ℕ) → v < m → get_or sides v Neither ≡ Second
        → three (odd? (state.label v)) (below M state v x) (below M state v y) ≡ three true false true
    side_two v h e = two_side (odd? (state.label v)) (below M state v x) (below M state v y) (sym (sided v h) ∙ e)

    -- only an odd vertex has a side
    side_none : (o a b : Bool) → o ≡ false → side o a b ≡ Neither
    side_none true a b e = cc
    side_none false a b e = refl

    pub side_of_other : (v : ℕ) → v < m → odd? (state.label v) ≡ false → get_or sides v Neither ≡ Neither
    side_of_other v h e = sided v h ∙ side_none (odd? (state.label v)) (below M state v x) (below M state v y) e

  -- an absorbed row, entry by entry
  pub absorbed_inside : (p q v z : ℕ) → state.label p ≡ Even → state.label q ≡ Even → v < m → z < m
      → absorbed_entry rows s.labels s.mates p q v z ≡ absorbed_row M state p q v z
  unfolding absorbed_entry
  absorbed_inside p q v z ep eq hv hz = cc (below_arrays v z hv hz, row_cell p z ep hz, row_cell q z eq hz)

  pub absorbed_outside : (p q v z : ℕ) → state.label p ≡ Even → state.label q ≡ Even → v < m → ltb z m ≡ false
      → absorbed_row M state p q v z ≡ z
  absorbed_outside p q v z ep eq hv hz =
      let away : (w : ℕ) → w < m → eqb z w ≡ false = λ w l. ne_eqb z w (λ e. impossible (cc (lt-ltb w m l))) in
      let fp = away p (even_inside R s rows state S p ep) in let fq = away q (even_inside R s rows state S q eq) in let fv = away v hv in
      let rp = row_outside p z ep hz in let rq = row_outside q z eq hz in
      elim (is (below M state v z)) [ yes e ↦ cc | no e ↦ cc ]

-- A walk up the tree, over plain lists.
use Prim.Native.Nat.{ℕ, ◌+◌, ◌<◌}
use mathlib.Core.Path.{◌≡◌, refl, sym, ◌∙◌}
use mathlib.Core.Bool.{true, false, ◌&&◌, ◌||◌}
use mathlib.Core.List.{List}
use native.Mathlib.Numerals.{add-one}
use native.Mathlib.Omega.{arith}
use lib.Dec.{eqb}
use lib.ListN.{length, get_or, set, length-set}
use borrow.Author.Tests.{eq-eqb, ne_eqb}
use Rattle.ring.proofs.Cases.{yes, no, is}
use Rattle.sets.specs.Sets.{has}
use Rattle.matching.specs.declared.climbs.Marks.{Marks}
use Rattle.matching.specs.declared.climbs.Side.{Side}
use Rattle.matching.specs.declared.climbs.Side.TheVariants.{Neither}
use Rattle.matching.specs.declared.matchings.Search.{Search}
use Rattle.matching.specs.Internal.Rows.{cell}
use Rattle.matching.specs.Internal.Climbs.{base_after, went, goes_on, Climbable, Marked}
use Rattle.matching.proofs.RowLaws.{value_set}

-- whether the walk goes on, by the mate o of b
module _ (rows : List (List ℕ)) (s : Search) (y b o : ℕ) (at : o ≡ get_or s.mates b 0) where
  pub goes_not : o ≡ b → false ≡ goes_on rows s y b
  unfolding goes_on
  goes_not e = rw (sym at, eq-eqb o b e)

  pub goes_by : (o ≡ b → ⊥) → eqb (cell rows y o) (get_or s.mates o 0) ≡ goes_on rows s y b
  unfolding goes_on
  goes_by e = rw (sym at, ne_eqb o b e)

-- the walk stays within the arrays
module _ {rows : List (List ℕ)} {s : Search} {x y : ℕ} {side : Side} {n b : ℕ} {before after : Marks}
    (C : Climbable rows s x y) (M : Marked rows s x y side n b before after) where
  pub climb_base : b < 512
  climb_base = rw M.reached (C.base_inside n M.went_on)

  pub climb_mate : get_or s.mates b 0 < 512
  climb_mate = rw M.reached (C.mate_inside n M.went_on)

  module _ (on : goes_on rows s y b ≡ true) where
    more : (went rows s x y n && goes_on rows s y (base_after s x n)) ≡ true
    more = cc (M.went_on, M.reached)

    pub climb_parent : get_or s.parents (get_or s.mates b 0) 0 < 512
    climb_parent = rw M.reached (C.parent_inside n more)

    pub climb_short : n + 1 < 512
    climb_short = rw add-one (C.short _ more)

-- its start and a step
pub marked_start : {rows : List (List ℕ)} {s : Search} {x y : ℕ} {side : Side} {b : ℕ} {before : Marks} → b ≡ get_or s.bases x 0
    → length before.sides ≡ 512 → length before.cycle ≡ 8 → length before.on ≡ 512
    → Marked rows s x y side 0 b before before
marked_start e s c o = record {
  went_on = refl;
  reached = e;
  sides_length = s;
  cycle_words = c;
  on_length = o;
  side_is = λ v. refl;
  member = λ v. refl;
  on_is = λ c. refl;
}

pub marked_turn : {rows : List (List ℕ)} {s : Search} {x y : ℕ} {side : Side} {n b : ℕ} {before after : Marks}
    → Marked rows s x y side n b before after → goes_on rows s y b ≡ true
    → (o next : ℕ) (words : List ℕ) → o ≡ get_or s.mates b 0 → o < 512 → b < 512
    → next ≡ get_or s.bases (get_or s.parents o 0) 0 → length words ≡ 8
    → ((v : ℕ) → has words v ≡ (eqb v o || has after.cycle v))
    → Marked rows s x y side (n + 1) next before (record { sides = set after.sides o side; cycle = words; on = set after.on b true })
marked_turn {side = side} {b = b} {after = after} M g o next words at room inside up wide add = rw add-one (record {
  went_on = cc (M.went_on, M.reached);
  reached = cc M.reached;
  sides_length = length-set after.sides o side ∙ M.sides_length;
  cycle_words = wide;
  on_length = length-set after.on b true ∙ M.on_length;
  side_is = λ v. let e = value_set after.sides o side v Neither (omega (arith, M.sides_length)) in
      elim (is (eqb v o)) [ yes f ↦ cc M.reached | no f ↦ cc (M.side_is v, M.reached) ];
  member = λ v. elim (is (eqb v o)) [ yes f ↦ cc (add v, M.reached) | no f ↦ cc (add v, M.member v, M.reached) ];
  on_is = λ c. let e = value_set after.on b true c false (omega (arith, M.on_length)) in
      elim (is (eqb c b)) [ yes f ↦ cc M.reached | no f ↦ cc (M.on_is c, M.reached) ];
})

-- The walks up the tree from the ends x and y of an edge that closes a blossom, in the words of the theory.
use Prim.Native.Nat.{ℕ, zero, suc, ◌+◌, ◌<◌}
use mathlib.Core.Path.{◌≡◌, refl, sym, ap, ◌∙◌}
use mathlib.Core.Bool.{Bool, true, false, not, cond, ◌&&◌, ◌||◌}
use mathlib.Core.List.{List}
use native.Mathlib.Omega.{arith}
use lib.Dec.{eqb}
use lib.ListN.{length, get_or}
use Rattle.ring.specs.declared.requests.Request.{Request}
use Rattle.ring.proofs.Cases.{same, different, eqb_refl, test, keep_apart, two, and_true}
use Rattle.sets.specs.Sets.{has}
use Rattle.blossom.specs.Internal.Labels.{Even, Odd}
use Rattle.blossom.specs.Internal.Rows.{Symmetric}
use Rattle.blossom.specs.Internal.State.{State, below, Invariant}
use Rattle.blossom.proofs.Cycle.{cycle, Walk, walk_less}
use Rattle.blossom.proofs.Climbing.{Climbing, sided, climb_begin, climb_odd, climb_next, climb_marks, climb_ends, climb_walk}
use Rattle.matching.specs.declared.climbs.Marks.{Marks}
use Rattle.matching.specs.declared.climbs.Side.{Side}
use Rattle.matching.specs.declared.climbs.Side.TheVariants.{Neither}
use Rattle.matching.specs.declared.matchings.Search.{Search}
use Rattle.matching.specs.Internal.Adjacency.{adjacent}
use Rattle.matching.specs.Internal.Climbs.{base_above, base_after, visited, passed, goes_on, went, Climbable, Climbed}
use Rattle.matching.specs.Internal.Model.{entry}
use Rattle.matching.specs.Internal.Search.{Standing, ScanAt}
use Rattle.matching.proofs.ModelLaws.{entry_inside}
use Rattle.matching.proofs.StandingLaws.{even_inside, mate_inside, clock_most}
use Rattle.matching.proofs.CycleLaws.{row_below}

pub scan_inside : (R : List Request) → Symmetric (adjacent R) → (r : ℕ) (s : Search) (rows : List (List ℕ)) (h x y : ℕ)
    → ScanAt R r s rows h x y → x < length R
scan_inside R symmetric r s rows h x y at =
    even_inside R s rows at.standing.state at.standing.stands x at.scanning.partly.x_even

neither : (a b : Bool) → (not a && not b) ≡ true → two a b ≡ two false false
neither true b e = cc
neither false true e = cc
neither false false e = refl

either : (a b : Bool) → (not a && not b) ≡ false → (a || b) ≡ true
either true b e = refl
either false true e = refl
either false false e = cc

-- the walk up from x against y
module _ (R : List Request) (symmetric : Symmetric (adjacent R)) (r : ℕ) (s : Search) (rows : List (List ℕ)) (T : Standing R r s rows)
    (I : Invariant (adjacent R) (entry (length R) s.mates) r T.state) (x y : ℕ)
    (ex : T.state.label x ≡ Even) (ey : T.state.label y ≡ Even) where
  abbrev m : ℕ
  m = length R

  abbrev M : ℕ → ℕ
  M = entry (length R) s.mates

  abbrev state : State
  state = T.state

  module _ (marked : ℕ → Bool) (b : ℕ) (C : Climbing M state x y marked b) where
    inside : b < m
    inside = even_inside R s rows state T.stands b (cc C.is_base)

    mate_is : M b ≡ get_or s.mates b 0
    mate_is = entry_inside m s.mates b inside

    mate_in : get_or s.mates b 0 < m
    mate_in = mate_inside R r s rows T b inside

    goes_on_lem : goes_on rows s y b ≡ (not (eqb (M b) b) && not (below M state (M b) y))
    unfolding goes_on
    goes_on_lem = cc (mate_is, row_below R r s rows state T.stands I y (get_or s.mates b 0) ey mate_in)

    module _ (on : goes_on rows s y b ≡ true) where
      free : two (eqb (M b) b) (below M state (M b) y) ≡ two false false
      free = neither (eqb (M b) b) (below M state (M b) y) (sym goes_on_lem ∙ on)

      mate_odd : state.label (M b) ≡ Odd
      mate_odd = climb_odd (adjacent R) symmetric M r state I x y ex ey marked b C (cc free)

      parent_is : state.parent (M b) ≡ get_or s.parents (get_or s.mates b 0) 0
      parent_is =
          T.stands.parent_is (M b) mate_odd
          ∙ (ap (entry m s.parents) mate_is ∙ entry_inside m s.parents (get_or s.mates b 0) mate_in)

      parent_in : get_or s.parents (get_or s.mates b 0) 0 < m
      parent_in = rw parent_is at (even_inside R s rows state T.stands (state.parent (M b)) (I.parent_even (M b) mate_odd))

      next_is : state.base (state.parent (M b)) ≡ base_above s b
      next_is = T.stands.base_is (state.parent (M b)) ∙ (ap (entry m s.bases) parent_is
          ∙ entry_inside m s.bases (get_or s.parents (get_or s.mates b 0) 0) parent_in)

      next : Climbing M state x y (λ t. eqb t (get_or s.mates b 0) || marked t) (base_above s b)
      next = rw (sym next_is, sym mate_is) (climb_next (adjacent R) symmetric M r state I x y ex ey marked b C (cc free) (cc free))

      next_less : state.order (base_above s b) < state.order b
      next_less = rw next_is at (walk_less (adjacent R) symmetric M r state I b mate_odd)

  abbrev base : ℕ → ℕ
  base n = base_after s x n

  abbrev marks : ℕ → ℕ → Bool
  marks n v = passed s x n v

  abbrev going : ℕ → Bool
  going n = went rows s x y n

  -- after n steps; the order falls
  record Arrived (n : ℕ) : Type 0 where
    climbing : Climbing M state x y (λ v. marks n v) (base n)
    early : state.order (base n) + n < s.clock

  arrived : (n : ℕ) → going n ≡ true → Arrived n
  arrived zero w =
      let e : state.base x ≡ get_or s.bases x 0 = T.stands.base_is x
      ∙ entry_inside m s.bases x (even_inside R s rows state T.stands x ex) in
      let o : state.order (state.base x) + 0 < s.clock = omega (arith, I.order_base x ex, I.order_clock x ex, T.stands.clock_is) in
      record { climbing = rw e at (climb_begin (adjacent R) symmetric M r state I x y ex ey); early = rw e at o }
  arrived (suc n) w =
      let p = and_true (going n) (goes_on rows s y (base n)) w in
      let A = arrived n p.0 in
      record {
        climbing = next (λ v. marks n v) (base n) A.climbing p.1;
        early = omega (arith, A.early, next_less (λ v. marks n v) (base n) A.climbing p.1);
      }

  climbing_at : (n b : ℕ) → b ≡ base n → Arrived n → Climbing M state x y (λ v. marks n v) b
  climbing_at n b e A = rw e A.climbing

  pub climbable : Climbable rows s x y
  climbable = let few = T.sized.few in record {
    from = omega (arith, even_inside R s rows state T.stands x ex);
    against = omega (arith, T.square.many, even_inside R s rows state T.stands y ey);
    base_inside = λ n w. omega (arith, inside (λ v. marks n v) (base n) (arrived n w).climbing);
    mate_inside = λ n w. omega (arith, mate_in (λ v. marks n v) (base n) (arrived n w).climbing);
    parent_inside = λ n w.
        let p = and_true (going n) (goes_on rows s y (base n)) w in
        omega (arith, parent_in (λ v. marks n v) (base n) (arrived n p.0).climbing p.1);
    short = λ n w. omega (arith, (arrived n w).early, clock_most R s rows state T.stands);
  }

  -- the bases that the walk visits are the mates of the vertices that it passes
  visited_is : (n : ℕ) → going n ≡ true → (c : ℕ) → c < m → visited s x n c ≡ marks n (get_or s.mates c 0)
  visited_is zero w c l = refl
  visited_is (suc n) w c l =
      let p = and_true (going n) (goes_on rows s y (base n)) w in
      let k = mate_is (λ v. marks n v) (base n) (arrived n p.0).climbing in
      let h = visited_is n p.0 c l in
      let e = entry_inside m s.mates c l in
      elim (test c (base n)) [
        | same f g ↦ cc (eqb_refl (get_or s.mates c 0))
        | different d ↦ cc (keep_apart M (λ z. cc (I.mates z)) c (base n) d).left
      ]

  -- its end
  module _ (number : Side) (b : ℕ) (before after : Marks) (E : Climbed rows s x y number b before after) where
    abbrev n : ℕ
    n = E.steps

    climbing : Climbing M state x y (λ v. marks n v) b
    climbing = climbing_at n b E.marked.reached (arrived n E.marked.went_on)

    end : (eqb (M b) b || below M state (M b) y) ≡ true
    end = either (eqb (M b) b) (below M state (M b) y) (sym (goes_on_lem (λ v. marks n v) b climbing) ∙ E.ended)

    pub walk : Walk M state (cycle M state x y) x b
    walk = climb_walk (adjacent R) symmetric M r state I x y ex ey (λ v. marks n v) b climbing end

    pub off : cycle M state x y (M b) ≡ false
    off = climb_ends (adjacent R) symmetric M r state I x y ex ey (λ v. marks n v) b climbing end

    pub b_inside : b < length R
    b_inside = inside (λ v. marks n v) b climbing

    marks_are : (v : ℕ) → marks n v ≡ sided M state x y v
    marks_are v = climb_marks (adjacent R) symmetric M r state I x y ex ey (λ w. marks n w) b climbing end v

    pub marked_is : (v : ℕ) → get_or after.sides v Neither ≡ cond (sided M state x y v) number (get_or before.sides v Neither)
    marked_is v = cc (E.marked.side_is v, marks_are v)

    pub added_is : (v : ℕ) → has after.cycle v ≡ (sided M state x y v || has before.cycle v)
    added_is v = cc (E.marked.member v, marks_are v)

    pub on_is : (c : ℕ) → c < m
        → get_or after.on c false ≡ (sided M state x y (get_or s.mates c 0) || get_or before.on c false)
    on_is c l = cc (E.marked.on_is c, visited_is n E.marked.went_on c l, marks_are (get_or s.mates c 0))

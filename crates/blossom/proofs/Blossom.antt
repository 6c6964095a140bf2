-- A blossom is shrunk: the odd vertices of its cycle, the set A, become even, and the classes along it become one, with the base k. The
-- invariant stays.
use Prim.Native.Nat.{ℕ, ◌<◌, ◌≤◌}
use mathlib.Core.Path.{◌≡◌}
use mathlib.Core.Bool.{Bool, true, false, ◌||◌}
use native.Mathlib.Omega.{arith}
use lib.Dec.{eqb}
use Rattle.ring.proofs.Cases.{yes, no, is, Apart, same, different, eqb_refl, test, tell_apart, two, three}
use Rattle.blossom.specs.Internal.Labels.{Free, Even, Odd, Frozen, even?, odd?}
use Rattle.blossom.specs.Internal.Rows.{Symmetric, IsRow, fixed}
use Rattle.blossom.specs.Internal.State.{State, below, Invariant}
use Rattle.blossom.proofs.Absorb.{below_odd, same_above, absorbed_row_is_row}
use Rattle.blossom.proofs.LabelLaws.{is_free, is_even, is_odd, is_frozen, label_case, apart_by_even, apart_by_odd}
use Rattle.blossom.proofs.Shrunk.{merged, shrunk, Blossom, NewOrders}

module _ (adj : ℕ → ℕ → Bool) (symmetric : Symmetric adj) (M : ℕ → ℕ) (r : ℕ) (s : State) (I : Invariant adj M r s)
    (A : ℕ → Bool) (p q : ℕ → ℕ) (g k : ℕ) (G : Blossom adj M s A p q g k)
    (o : ℕ → ℕ) (c : ℕ) (N : NewOrders s A o c) where
  abbrev after : State
  after = shrunk M s A p q k o c

  abbrev D : ℕ → ℕ → Bool
  D t z = below M s t z

  not_in_cycle : (z : ℕ) → odd? (s.label z) ≡ false → A z ≡ false
  not_in_cycle z h = elim (is (A z)) [ yes e ↦ cc (G.cycle_odd z e) | no e ↦ e ]

  odd_stays : (t : ℕ) → after.label t ≡ Odd → two (A t) (s.label t) ≡ two false Odd
  odd_stays t o = elim (is (A t)) [ yes e ↦ cc | no e ↦ cc ]

  -- nothing changes in what is below the vertices that stay odd
  level : (t v : ℕ) → s.label t ≡ Odd → A t ≡ false → A v ≡ true → D t v ≡ D t g
  level t v ot nt av = cc (
    G.p_level t v ot nt av,
    same_above adj symmetric M r s I (p v) (q v) v (G.p_even v av) (G.q_even v av) (G.cycle_odd v av) (G.p_in v av) (G.q_out v av)
        t ot (cc (G.p_level t v ot nt av, G.q_level t v ot nt av)),
  )

  keeps : (t z : ℕ) → s.label t ≡ Odd → A t ≡ false → below M after t z ≡ D t z
  keeps t z ot nt = elim (is (A z)) [
    | yes e ↦
        let oz = G.cycle_odd z e in let pe = G.p_even z e in let qe = G.q_even z e in
        let tz = tell_apart A z t e nt in
        let tp = apart_by_odd s.label t (p z) (cc) (cc) in
        let tq = apart_by_odd s.label t (q z) (cc) (cc) in
        let lp = G.p_level t z ot nt e in let lq = G.q_level t z ot nt e in let lz = level t z ot nt e in
        elim (is (D z t)) [ yes f ↦ cc | no f ↦ cc ]
    | no e ↦ elim (label_case (s.label z)) [
      | is_free f ↦ cc
      | is_frozen f ↦ cc
      | is_even f ↦ cc
      | is_odd f ↦ cc (not_in_cycle (M z) (cc (I.mate_odd z f)))
    ]
  ]

  -- the rows
  rows' : (a : ℕ) → after.label a ≡ Even → IsRow adj (after.row a) (fixed M r a)
  rows' a h z = elim (is (A a)) [
    | yes e ↦
        cc (absorbed_row_is_row adj symmetric M r s I (p a) (q a) a (G.p_even a e) (G.q_even a e) (G.cycle_odd a e) (G.p_in a e)
        (G.q_out a e) (G.edge a e) z)
    | no e ↦ cc (I.rows a (cc) z)
  ]

  -- outside the tree
  row_out : (a z : ℕ) → A a ≡ true → s.row (q a) z ≡ M z → even? (s.label z) ≡ false → odd? (s.label z) ≡ false → after.row a z ≡ M z
  row_out a z e h f g =
      let za = apart_by_odd s.label a z (cc (G.cycle_odd a e)) g in
      let zp = apart_by_even s.label (p a) z (cc (G.p_even a e)) f in
      let zq = apart_by_even s.label (q a) z (cc (G.q_even a e)) f in
      elim (label_case (s.label z)) [ is_free i ↦ cc | is_frozen i ↦ cc | is_even i ↦ cc | is_odd i ↦ cc ]

  row_free' : (a z : ℕ) → after.label a ≡ Even → after.label z ≡ Free → after.row a z ≡ M z
  row_free' a z h f = elim (is (A z)) [
    | yes e ↦ cc
    | no e ↦
        elim (is (A a))
        [ yes i ↦ row_out a z i (I.row_free (q a) z (G.q_even a i) (cc)) (cc) (cc) | no i ↦ cc (I.row_free a z (cc) (cc)) ]
  ]

  row_frozen' : (a z : ℕ) → after.label a ≡ Even → after.label z ≡ Frozen → after.row a z ≡ M z
  row_frozen' a z h f = elim (is (A z)) [
    | yes e ↦ cc
    | no e ↦ elim (is (A a)) [
      | yes i ↦ row_out a z i (I.row_frozen (q a) z (G.q_even a i) (cc)) (cc) (cc)
      | no i ↦ cc (I.row_frozen a z (cc) (cc))
    ]
  ]

  row_below' : (t a z : ℕ) → after.label t ≡ Odd → after.label a ≡ Even → below M after t a ≡ true → below M after t z ≡ true
      → below M after t (after.row a z) ≡ true
  row_below' t a z o h f i =
      let oo = odd_stays t o in let ka = keeps t a (cc) (cc) in let kz = keeps t z (cc) (cc) in
      let kr = keeps t (after.row a z) (cc) (cc) in
      elim (is (A a)) [
        | no e ↦ cc (I.row_below t a z (cc) (cc) (cc) (cc))
        | yes e ↦
            let lp = G.p_level t a (cc) (cc) e in let lq = G.q_level t a (cc) (cc) e in let la = level t a (cc) (cc) e in
            elim (test z a) [
              | same u v ↦ cc
              | different u ↦ elim (test z (p a)) [
                | same v w ↦ cc
                | different v ↦ elim (test z (q a)) [
                  | same w n ↦ cc
                  | different w ↦ elim (is (D a z)) [
                    | yes n ↦ cc (I.row_below t (p a) z (cc) (G.p_even a e) (cc) (cc))
                    | no n ↦ cc (I.row_below t (q a) z (cc) (G.q_even a e) (cc) (cc))
                  ]
                ]
              ]
            ]
      ]

  row_away' : (t a z : ℕ) → after.label t ≡ Odd → after.label a ≡ Even → below M after t a ≡ false → below M after t z ≡ true
      → after.row a z ≡ M z
  row_away' t a z o h f i =
      let oo = odd_stays t o in let ka = keeps t a (cc) (cc) in let kz = keeps t z (cc) (cc) in
      elim (is (A a)) [
        | no e ↦ cc (I.row_away t a z (cc) (cc) (cc) (cc))
        | yes e ↦
            let lp = G.p_level t a (cc) (cc) e in let lq = G.q_level t a (cc) (cc) e in let la = level t a (cc) (cc) e in
            let za = tell_apart (D t) z a (cc) (cc) in
            let zp = tell_apart (D t) z (p a) (cc) (cc) in
            let zq = tell_apart (D t) z (q a) (cc) (cc) in
            elim (is (D a z)) [
              | yes n ↦ cc (I.row_away t (p a) z (cc) (G.p_even a e) (cc) (cc))
              | no n ↦ cc (I.row_away t (q a) z (cc) (G.q_even a e) (cc) (cc))
            ]
      ]

  -- the classes
  k_merged : merged M s A k k ≡ true
  k_merged = elim (is (A k)) [ yes e ↦ cc | no e ↦ cc (G.k_base, eqb_refl k) ]

  data Class (z : ℕ) : Type 0 where
    in_cycle : A z ≡ true → s.label z ≡ Odd → merged M s A k z ≡ true → Class z
    at_base : A z ≡ false → s.label z ≡ Even → s.base z ≡ k → merged M s A k z ≡ true → Class z
    on_cycle_lem : A z ≡ false → s.label z ≡ Even → Apart (s.base z) k → A (M (s.base z)) ≡ true → merged M s A k z ≡ true → Class z
    elsewhere : A z ≡ false → s.label z ≡ Even → Apart (s.base z) k → A (M (s.base z)) ≡ false → merged M s A k z ≡ false → Class z

  class : (z : ℕ) → after.label z ≡ Even → Class z
  class z h = elim (is (A z)) [
    | yes e ↦ in_cycle e (G.cycle_odd z e) (cc)
    | no e ↦ elim (test (s.base z) k) [
      | same f i ↦ at_base e (cc) f (cc)
      | different f ↦ elim (is (A (M (s.base z)))) [ yes i ↦ on_cycle_lem e (cc) f i (cc) | no i ↦ elsewhere e (cc) f i (cc) ]
    ]
  ]

  base_even' : (z : ℕ) → after.label z ≡ Even → two (after.label (after.base z)) (after.base (after.base z)) ≡ two Even (after.base z)
  base_even' z h =
      let kb = G.k_base in let km = k_merged in let ak = not_in_cycle k (cc) in
      elim (class z h) [
        | in_cycle a b e ↦ cc
        | at_base a b e f ↦ cc
        | on_cycle_lem a b e f i ↦ cc
        | elsewhere a b e f i ↦ cc (I.base_even z b, not_in_cycle (s.base z) (cc (I.base_even z b)))
      ]

  inner_mate' : (z : ℕ) → after.label z ≡ Even → eqb (after.base z) z ≡ false
      → three (after.label (M z)) (after.base (M z)) (eqb (M z) z) ≡ three Even (after.base z) false
  inner_mate' z h n = elim (class z h) [
    | in_cycle a b e ↦
        let m = I.mate_odd z b in
        let t = I.odd_mate z b in
        let o = not_in_cycle (M z) (cc) in
        let d = apart_by_even s.label (M z) z (cc) (cc) in
        elim (test (s.base (M z)) k) [ same f i ↦ cc (I.mates z) | different f ↦ cc (I.mates z) ]
    | at_base a b e f ↦ let i = I.inner_mate z b (cc) in let o = not_in_cycle (M z) (cc) in cc
    | on_cycle_lem a b e f i ↦ elim (test (s.base z) z) [
      | same j l ↦ let o = G.cycle_odd (M (s.base z)) f in cc (apart_by_odd s.label (M z) z (cc) (cc)).left
      | different j ↦ let u = I.inner_mate z b (cc) in let o = not_in_cycle (M z) (cc) in cc
    ]
    | elsewhere a b e f i ↦ let u = I.inner_mate z b (cc) in let o = not_in_cycle (M z) (cc) in cc
  ]

  base_mate' : (z : ℕ) → after.label z ≡ Even → after.base z ≡ z → (eqb (M z) z || odd? (after.label (M z))) ≡ true
  base_mate' z h n = let kb = G.k_base in elim (class z h) [
    | in_cycle a b e ↦ cc
    | at_base a b e f ↦ cc (I.base_mate z b (cc))
    | on_cycle_lem a b e f i ↦ cc
    | elsewhere a b e f i ↦ cc (I.base_mate z b (cc))
  ]

  odd_mate' : (t : ℕ) → after.label t ≡ Odd → after.base (M t) ≡ M t
  odd_mate' t o =
      let oo = odd_stays t o in let b = I.odd_mate t (cc) in let m = I.mate_odd t (cc) in let n = not_in_cycle (M t) (cc) in
      elim (test (s.base (M t)) k) [ same e f ↦ cc | different e ↦ cc (I.mates t) ]

  -- a merged vertex is below what k is below
  lower : (t z : ℕ) → s.label t ≡ Odd → A t ≡ false → after.label z ≡ Even → D t z ≡ D t (after.base z)
  lower t z ot nt h = elim (class z h) [
    | in_cycle a b e ↦ cc (level t z ot nt a, G.k_level t ot nt)
    | at_base a b e f ↦ cc (I.below_base t z ot b)
    | on_cycle_lem a b e f i ↦
        let v : ℕ = M (s.base z) in let ov = G.cycle_odd v f in let tv = tell_apart A v t f nt in
        cc (I.below_parent t z ot b ov, below_odd adj symmetric M r s I t v ot ov, level t v ot nt f, G.k_level t ot nt)
    | elsewhere a b e f i ↦ cc (I.below_base t z ot b)
  ]

  below_base' : (t z : ℕ) → after.label t ≡ Odd → after.label z ≡ Even → below M after t z ≡ below M after t (after.base z)
  below_base' t z o h = let oo = odd_stays t o in cc (keeps t z (cc) (cc), keeps t (after.base z) (cc) (cc), lower t z (cc) (cc) h)

  below_root' : (t z : ℕ) → after.label t ≡ Odd → after.label z ≡ Even → M (after.base z) ≡ after.base z → below M after t z ≡ false
  below_root' t z o h m = let oo = odd_stays t o in let kb = G.k_base in
      elim (class z h) [
        | in_cycle a b e ↦ cc (keeps t z (cc) (cc), lower t z (cc) (cc) h, I.below_root t k (cc) (cc) (cc))
        | at_base a b e f ↦ cc (keeps t z (cc) (cc), lower t z (cc) (cc) h, I.below_root t k (cc) (cc) (cc))
        | on_cycle_lem a b e f i ↦ cc (keeps t z (cc) (cc), lower t z (cc) (cc) h, I.below_root t k (cc) (cc) (cc))
        | elsewhere a b e f i ↦ cc (keeps t z (cc) (cc), I.below_root t z (cc) (cc) (cc))
      ]

  below_parent' : (t z : ℕ) → after.label t ≡ Odd → after.label z ≡ Even → after.label (M (after.base z)) ≡ Odd
      → below M after t z ≡ (eqb t (M (after.base z)) || below M after t (after.parent (M (after.base z))))
  below_parent' t z o h n =
      let oo = odd_stays t o in let ob = odd_stays (M (after.base z)) n in let kb = G.k_base in let lz = lower t z (cc) (cc) h in
      let kz = keeps t z (cc) (cc) in let kp = keeps t (s.parent (M (after.base z))) (cc) (cc) in
      elim (class z h) [
        | in_cycle a b e ↦ cc (I.below_parent t k (cc) (cc) (cc))
        | at_base a b e f ↦ cc (I.below_parent t k (cc) (cc) (cc))
        | on_cycle_lem a b e f i ↦ cc (I.below_parent t k (cc) (cc) (cc))
        | elsewhere a b e f i ↦ cc (I.below_parent t z (cc) b (cc))
      ]

  order_base' : (z : ℕ) → after.label z ≡ Even → after.order (after.base z) ≤ after.order z
  order_base' z h =
      let kb = G.k_base in let ak = not_in_cycle k (cc) in
      elim (class z h) [
        | in_cycle a b e ↦
            let u : after.order (after.base z) ≡ s.order k = cc in
            let v : after.order z ≡ o z = cc in
            omega (arith, I.order_clock k (cc), N.from_clock z a)
        | at_base a b e f ↦
            let u : after.order (after.base z) ≡ s.order (s.base z) = cc in
            let v : after.order z ≡ s.order z = cc in
            omega (arith, I.order_base z b)
        | on_cycle_lem a b e f i ↦
            let u : after.order (after.base z) ≡ s.order k = cc in let v : after.order z ≡ s.order z = cc in
            let w : ℕ = M (s.base z) in let m : M w ≡ s.base z = cc (I.mates (s.base z)) in
            omega (arith, I.order_base z b, G.k_order w f, rw m at (I.parent_order w (G.cycle_odd w f)))
        | elsewhere a b e f i ↦
            let n = not_in_cycle (s.base z) (cc (I.base_even z b)) in
            let u : after.order (after.base z) ≡ s.order (s.base z) = cc in
            let v : after.order z ≡ s.order z = cc in
            omega (arith, I.order_base z b)
      ]

  order_clock' : (z : ℕ) → after.label z ≡ Even → after.order z < after.clock
  order_clock' z h = elim (is (A z)) [
    | yes e ↦ let u : after.order z ≡ o z = cc in omega (arith, N.to_clock z e)
    | no e ↦ let u : after.order z ≡ s.order z = cc in omega (arith, I.order_clock z (cc), N.clock_grows)
  ]

  parent_order' : (t : ℕ) → after.label t ≡ Odd → after.order (after.parent t) < after.order (M t)
  parent_order' t o =
      let oo = odd_stays t o in
      let n = not_in_cycle (M t) (cc (I.mate_odd t (cc))) in
      let l = not_in_cycle (s.parent t) (cc (I.parent_even t (cc))) in
      let u : after.order (after.parent t) ≡ s.order (s.parent t) = cc in let v : after.order (M t) ≡ s.order (M t) = cc in
      omega (arith, I.parent_order t (cc))

  pub shrinks : Invariant adj M r after
  shrinks = record {
    mates = I.mates;
    mate_free = λ z h. elim (is (A z)) [ yes e ↦ cc | no e ↦ let m = I.mate_free z (cc) in cc (not_in_cycle (M z) (cc)) ];
    mate_frozen = λ z h. elim (is (A z)) [ yes e ↦ cc | no e ↦ let m = I.mate_frozen z (cc) in cc (not_in_cycle (M z) (cc)) ];
    mate_odd = λ z h. let oo = odd_stays z h in let m = I.mate_odd z (cc) in cc (not_in_cycle (M z) (cc));
    mate_even = λ z h. elim (is (A z)) [
      | yes e ↦
          let o = G.cycle_odd z e in
          cc ((apart_by_even s.label (M z) z (cc (I.mate_odd z o)) (cc)).left, (apart_by_even s.label r z (cc I.root) (cc)).right)
      | no e ↦ cc (I.mate_even z (cc))
    ];
    root = let m = I.root in cc (not_in_cycle r (cc));
    rows = rows';
    row_free = row_free';
    row_frozen = row_frozen';
    row_below = row_below';
    row_away = row_away';
    base_even = base_even';
    inner_mate = inner_mate';
    base_mate = base_mate';
    odd_mate = odd_mate';
    below_base = below_base';
    order_base = order_base';
    order_clock = order_clock';
    parent_even = λ z h. let oo = odd_stays z h in let m = I.parent_even z (cc) in cc (not_in_cycle (s.parent z) (cc));
    parent_order = parent_order';
    below_root = below_root';
    below_parent = below_parent';
  }

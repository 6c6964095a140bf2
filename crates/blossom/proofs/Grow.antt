-- A tree grows: y, adjacent to the even x, becomes odd with the parent x, and its mate c becomes even. The invariant stays.
use Prim.Native.Nat.{ℕ, suc, ◌<◌, ◌≤◌}
use mathlib.Core.Path.{◌≡◌, refl}
use mathlib.Core.Bool.{Bool, true, false, cond, ◌||◌}
use native.Mathlib.Omega.{arith}
use lib.Dec.{eqb}
use Rattle.ring.proofs.Cases.{Apart, same, different, eqb_refl, test, apart_eqb, keep_apart, two, three, impossible}
use Rattle.blossom.specs.Internal.Labels.{Free, Even, Odd, Frozen}
use Rattle.blossom.specs.Internal.Rows.{Symmetric, IsRow, fixed}
use Rattle.blossom.specs.Internal.State.{State, below, Invariant}
use Rattle.blossom.proofs.LabelLaws.{is_free, is_even, is_odd, is_frozen, label_case, apart_by_even, apart_by_odd}
use Rattle.blossom.proofs.RowLaws.{row_keep_apart, grown_row_lem, grown_row_is_row}
use Rattle.blossom.proofs.StateLaws.{exposed_is_root}

-- the state after the step
abbrev pub grown : (ℕ → ℕ) → State → ℕ → ℕ → ℕ → State
grown M s x y c = record {
  label = λ z. cond (eqb z c) Even (cond (eqb z y) Odd (s.label z));
  base = λ z. cond (eqb z c) c (s.base z);
  parent = λ z. cond (eqb z y) x (s.parent z);
  order = λ z. cond (eqb z c) s.clock (s.order z);
  row = λ a z. cond (eqb a c) (grown_row_lem (s.row x) x y c z) (s.row a z);
  clock = suc s.clock;
}

module _ (adj : ℕ → ℕ → Bool) (symmetric : Symmetric adj) (M : ℕ → ℕ) (r : ℕ) (s : State) (I : Invariant adj M r s)
    (x y c : ℕ) (ex : s.label x ≡ Even) (fy : s.label y ≡ Free) (yc : Apart y c) (axy : adj x y ≡ true)
    -- what follows from these: `grows`, at the end, puts it in
    (my : M y ≡ c) (mc : M c ≡ y) (fc : s.label c ≡ Free) (xy : Apart x y) (xc : Apart x c) (rc : Apart r c) (ry : Apart r y)
    (c-itself : eqb c c ≡ true) (y-itself : eqb y y ≡ true)
  where
    abbrev after : State
    after = grown M s x y c

    data At (z : ℕ) : Type 0 where
      at_c : z ≡ c → eqb z c ≡ true → At z
      at_y : z ≡ y → Apart z c → eqb z y ≡ true → At z
      at_other : Apart z c → Apart z y → Apart (M z) c → Apart (M z) y → At z

    mate_apart : (a b k : ℕ) → M b ≡ k → Apart a b → Apart (M a) k
    mate_apart a b k e d = rw e at (keep_apart M (λ z. cc (I.mates z)) a b d)

    at : (z : ℕ) → At z
    at z = elim (test z c) [
      | same e f ↦ at_c e f
      | different d ↦ elim (test z y) [ same e f ↦ at_y e d f | different e ↦ at_other d e (mate_apart z y c my e) (mate_apart z c y mc d) ]
    ]

    -- an even row keeps y and c away from the others
    row_apart : (a : ℕ) → s.label a ≡ Even → (z : ℕ) → Apart z c → Apart z y
        → two (eqb (s.row a z) c) (eqb (s.row a z) y) ≡ two false false
    row_apart a e z f g = cc (
      (row_keep_apart adj (s.row a) (fixed M r a) (I.rows a e) z y g).left,
      (row_keep_apart adj (s.row a) (fixed M r a) (I.rows a e) z c f).left,
      I.row_free a y e fy,
      I.row_free a c e fc,
    )

    below_odd : (t : ℕ) → s.label t ≡ Odd → (z : ℕ) → below M after t z ≡ cond (eqb z c || eqb z y) (below M s t x) (below M s t z)
    below_odd t o z =
        let tx = apart_by_odd s.label t x (cc) (cc) in
        let ty = apart_by_odd s.label t y (cc) (cc) in
        let tc = apart_by_odd s.label t c (cc) (cc) in
        elim (at z) [
          | at_c e f ↦ cc
          | at_y e d f ↦ cc
          | at_other a b d e ↦ elim (label_case (s.label z)) [ is_free k ↦ cc | is_even k ↦ cc | is_odd k ↦ cc | is_frozen k ↦ cc ]
        ]

    below_y : (z : ℕ) → below M after y z ≡ eqb z c
    below_y z = elim (at z) [
      | at_c e f ↦ cc
      | at_y e d f ↦ cc
      | at_other a b d e ↦ elim (label_case (s.label z)) [
        | is_free k ↦ cc
        | is_even k ↦ cc (I.row_free z y k fy)
        | is_odd k ↦ cc (I.row_free (M z) y (I.mate_odd z k) fy)
        | is_frozen k ↦ cc
      ]
    ]

    data NewOdd (t : ℕ) : Type 0 where
      new : t ≡ y → NewOdd t
      before : s.label t ≡ Odd → NewOdd t

    odd_at : (t : ℕ) → after.label t ≡ Odd → NewOdd t
    odd_at t o = elim (at t) [ at_c e f ↦ impossible (cc) | at_y e d f ↦ new e | at_other a b d e ↦ before (cc) ]

    rows' : (a : ℕ) → after.label a ≡ Even → IsRow adj (after.row a) (fixed M r a)
    rows' a h z = elim (at a) [
      | at_c e f ↦
          cc (grown_row_is_row adj symmetric M (s.row x) r x y c (I.rows x ex) (cc (I.row_free x y ex fy)) xy xc yc axy
          (exposed_is_root adj M r s I x ex) (cc) z)
      | at_y e d f ↦ cc
      | at_other b d e f ↦ cc (I.rows a (cc) z)
    ]

    row_free' : (a z : ℕ) → after.label a ≡ Even → after.label z ≡ Free → after.row a z ≡ M z
    row_free' a z h k = elim (at z) [
      | at_c e f ↦ cc
      | at_y e d f ↦ cc
      | at_other b d e f ↦ let xz = apart_by_even s.label x z (cc) (cc) in elim (at a) [
        | at_c g i ↦ cc (I.row_free x z ex (cc))
        | at_y g i j ↦ cc
        | at_other g i j l ↦ cc (I.row_free a z (cc) (cc))
      ]
    ]

    row_frozen' : (a z : ℕ) → after.label a ≡ Even → after.label z ≡ Frozen → after.row a z ≡ M z
    row_frozen' a z h k = elim (at z) [
      | at_c e f ↦ cc
      | at_y e d f ↦ cc
      | at_other b d e f ↦ let xz = apart_by_even s.label x z (cc) (cc) in elim (at a) [
        | at_c g i ↦ cc (I.row_frozen x z ex (cc))
        | at_y g i j ↦ cc
        | at_other g i j l ↦ cc (I.row_frozen a z (cc) (cc))
      ]
    ]

    row_below' : (t a z : ℕ) → after.label t ≡ Odd → after.label a ≡ Even → below M after t a ≡ true → below M after t z ≡ true
        → below M after t (after.row a z) ≡ true
    row_below' t a z o h p q = elim (odd_at t o) [
      | new i ↦ elim (at a) [
        | at_c g j ↦ elim (at z) [ at_c k l ↦ cc | at_y k l n ↦ cc (below_y z) | at_other k l n u ↦ cc (below_y z) ]
        | at_y g j k ↦ cc
        | at_other g j k l ↦ cc (below_y a)
      ]
      | before i ↦ let da = below_odd t i a in let dz = below_odd t i z in let dr = below_odd t i (after.row a z) in elim (at a) [
        | at_y g j k ↦ cc
        | at_c g j ↦ elim (at z) [
          | at_c k l ↦ cc
          | at_y k l n ↦ cc
          | at_other k l n u ↦
              elim (test z x) [ same v w ↦ cc | different v ↦ cc (I.row_below t x z i ex (cc) (cc), row_apart x ex z k l) ]
        ]
        | at_other g j e f ↦ elim (at z) [
          | at_c k l ↦ cc (I.row_free a c (cc) fc)
          | at_y k l n ↦ cc (I.row_free a y (cc) fy)
          | at_other k l n u ↦ cc (I.row_below t a z i (cc) (cc) (cc), row_apart a (cc) z k l)
        ]
      ]
    ]

    row_away' : (t a z : ℕ) → after.label t ≡ Odd → after.label a ≡ Even → below M after t a ≡ false → below M after t z ≡ true
        → after.row a z ≡ M z
    row_away' t a z o h p q = elim (odd_at t o) [
      | new i ↦ elim (at a) [
        | at_c g j ↦ cc (below_y a)
        | at_y g j k ↦ cc
        | at_other g j k l ↦
            elim (at z) [ at_c k l ↦ cc (I.row_free a c (cc) fc) | at_y k l n ↦ cc (below_y z) | at_other k l n u ↦ cc (below_y z) ]
      ]
      | before i ↦ let da = below_odd t i a in let dz = below_odd t i z in elim (at a) [
        | at_y g j k ↦ cc
        | at_c g j ↦ elim (at z) [
          | at_c k l ↦ cc
          | at_y k l n ↦ cc
          | at_other k l n u ↦ elim (test z x) [ same v w ↦ cc | different v ↦ cc (I.row_away t x z i ex (cc) (cc)) ]
        ]
        | at_other g j e f ↦ elim (at z) [
          | at_c k l ↦ cc (I.row_free a c (cc) fc)
          | at_y k l n ↦ cc (I.row_free a y (cc) fy)
          | at_other k l n u ↦ cc (I.row_away t a z i (cc) (cc) (cc))
        ]
      ]
    ]

    base_apart : (z : ℕ) → s.label z ≡ Even → three (eqb (s.base z) c) (eqb (s.base z) y) (s.label (s.base z)) ≡ three false false Even
    base_apart z e =
        cc (
          I.base_even z e,
          (apart_by_even s.label (s.base z) c (cc (I.base_even z e)) (cc)).left,
          (apart_by_even s.label (s.base z) y (cc (I.base_even z e)) (cc)).left,
        )

    parent_apart : (z : ℕ) → s.label z ≡ Odd → two (eqb (s.parent z) c) (eqb (s.parent z) y) ≡ two false false
    parent_apart z o =
        cc (
          (apart_by_even s.label (s.parent z) c (cc (I.parent_even z o)) (cc)).left,
          (apart_by_even s.label (s.parent z) y (cc (I.parent_even z o)) (cc)).left,
        )

    below_base' : (t z : ℕ) → after.label t ≡ Odd → after.label z ≡ Even → below M after t z ≡ below M after t (after.base z)
    below_base' t z o h = elim (at z) [
      | at_c e f ↦ cc
      | at_y e d f ↦ cc
      | at_other a b d e ↦ let bf = base_apart z (cc) in elim (odd_at t o) [
        | new i ↦ cc (below_y z, below_y (s.base z))
        | before i ↦ cc (below_odd t i z, below_odd t i (s.base z), I.below_base t z i (cc))
      ]
    ]

    below_root' : (t z : ℕ) → after.label t ≡ Odd → after.label z ≡ Even → M (after.base z) ≡ after.base z → below M after t z ≡ false
    below_root' t z o h m = elim (at z) [
      | at_c e f ↦ cc
      | at_y e d f ↦ cc
      | at_other a b d e ↦ elim (odd_at t o) [ new i ↦ cc (below_y z) | before i ↦ cc (below_odd t i z, I.below_root t z i (cc) (cc)) ]
    ]

    below_parent' : (t z : ℕ) → after.label t ≡ Odd → after.label z ≡ Even → after.label (M (after.base z)) ≡ Odd
        → below M after t z ≡ (eqb t (M (after.base z)) || below M after t (after.parent (M (after.base z))))
    below_parent' t z o h k = elim (at z) [
      | at_y e d f ↦ cc
      | at_c e f ↦ elim (odd_at t o) [
        | new i ↦ cc (below_y z)
        | before i ↦ let ty = apart_by_odd s.label t y (cc) (cc) in cc (below_odd t i z, below_odd t i x)
      ]
      | at_other a b d e ↦
          let bf = base_apart z (cc) in
          let q : ℕ = M (s.base z) in
          let qc = mate_apart (s.base z) y c my (apart_eqb (s.base z) y (cc)) in
          let qy = mate_apart (s.base z) c y mc (apart_eqb (s.base z) c (cc)) in
          let oq : s.label q ≡ Odd = cc in
          let pf = parent_apart q oq in
          elim (odd_at t o) [
            | new i ↦ cc (below_y z, below_y (s.parent q))
            | before i ↦ cc (below_odd t i z, below_odd t i (s.parent q), I.below_parent t z i (cc) oq)
          ]
    ]

    order_base' : (z : ℕ) → after.label z ≡ Even → after.order (after.base z) ≤ after.order z
    order_base' z h = elim (at z) [
      | at_y e d f ↦ impossible (cc)
      | at_c e f ↦ let u : after.order (after.base z) ≡ after.order z = cc in omega arith
      | at_other a b d e ↦
          let bf = base_apart z (cc) in
          let u : after.order (after.base z) ≡ s.order (s.base z) = cc in let v : after.order z ≡ s.order z = cc in
          omega (arith, I.order_base z (cc))
    ]

    order_clock' : (z : ℕ) → after.label z ≡ Even → after.order z < after.clock
    order_clock' z h = elim (at z) [
      | at_y e d f ↦ impossible (cc)
      | at_c e f ↦ let u : after.order z ≡ s.clock = cc in omega arith
      | at_other a b d e ↦ let v : after.order z ≡ s.order z = cc in omega (arith, I.order_clock z (cc))
    ]

    parent_order' : (t : ℕ) → after.label t ≡ Odd → after.order (after.parent t) < after.order (M t)
    parent_order' t o = elim (at t) [
      | at_c e f ↦ impossible (cc)
      | at_y e d f ↦
          let u : after.order (after.parent t) ≡ s.order x = cc in
          let v : after.order (M t) ≡ s.clock = cc in
          omega (arith, I.order_clock x ex)
      | at_other a b d e ↦
          let pf = parent_apart t (cc) in
          let u : after.order (after.parent t) ≡ s.order (s.parent t) = cc in let v : after.order (M t) ≡ s.order (M t) = cc in
          omega (arith, I.parent_order t (cc))
    ]

    grows_at : Invariant adj M r after
    grows_at = record {
      mates = I.mates;
      mate_free = λ z h. elim (at z) [ at_c e f ↦ cc | at_y e d f ↦ cc | at_other a b d e ↦ cc (I.mate_free z (cc)) ];
      mate_frozen = λ z h. elim (at z) [ at_c e f ↦ cc | at_y e d f ↦ cc | at_other a b d e ↦ cc (I.mate_frozen z (cc)) ];
      mate_odd = λ z h. elim (at z) [ at_c e f ↦ cc | at_y e d f ↦ cc | at_other a b d e ↦ cc (I.mate_odd z (cc)) ];
      mate_even = λ z h. elim (at z) [ at_c e f ↦ cc | at_y e d f ↦ cc | at_other a b d e ↦ cc (I.mate_even z (cc)) ];
      root = cc I.root;
      rows = rows';
      row_free = row_free';
      row_frozen = row_frozen';
      row_below = row_below';
      row_away = row_away';
      base_even = λ z h. elim (at z) [ at_c e f ↦ cc | at_y e d f ↦ cc | at_other a b d e ↦ cc (I.base_even z (cc), base_apart z (cc)) ];
      inner_mate = λ z h n. elim (at z) [ at_c e f ↦ cc | at_y e d f ↦ cc | at_other a b d e ↦ cc (I.inner_mate z (cc) (cc)) ];
      base_mate = λ z h tz. elim (at z) [ at_c e f ↦ cc | at_y e d f ↦ cc | at_other a b d e ↦ cc (I.base_mate z (cc) (cc)) ];
      odd_mate = λ z o. elim (at z) [ at_c e f ↦ cc | at_y e d f ↦ cc | at_other a b d e ↦ cc (I.odd_mate z (cc)) ];
      below_base = below_base';
      order_base = order_base';
      order_clock = order_clock';
      parent_even = λ z o.
          elim (at z) [ at_c e f ↦ cc | at_y e d f ↦ cc | at_other a b d e ↦ cc (I.parent_even z (cc), parent_apart z (cc)) ];
      parent_order = parent_order';
      below_root = below_root';
      below_parent = below_parent';
    }

pub grows : (adj : ℕ → ℕ → Bool) (symmetric : Symmetric adj) (M : ℕ → ℕ) (r : ℕ) (s : State) (I : Invariant adj M r s)
    (x y : ℕ) → s.label x ≡ Even → s.label y ≡ Free → eqb (M y) y ≡ false → adj x y ≡ true → Invariant adj M r (grown M s x y (M y))
grows adj symmetric M r s I x y ex fy n a =
    let fc = I.mate_free y fy in
    grows_at adj symmetric M r s I x y (M y) ex fy (apart_eqb y (M y) (apart_eqb (M y) y n).right) a refl (cc (I.mates y)) fc
    (apart_by_even s.label x y (cc) (cc)) (apart_by_even s.label x (M y) (cc) (cc))
    (apart_by_even s.label r (M y) (cc I.root) (cc))
    (apart_by_even s.label r y (cc I.root) (cc)) (eqb_refl (M y)) (eqb_refl y)

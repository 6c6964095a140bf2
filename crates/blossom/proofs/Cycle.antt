-- An edge between two classes closes a blossom: the odd vertices of its cycle are those above one end and not above the other, and a walk
-- up the tree from one end finds its base.
use Prim.Native.Nat.{ℕ, zero, suc, ◌<◌, ◌≤◌}
use mathlib.Core.Path.{◌≡◌}
use mathlib.Core.Bool.{Bool, true, false, xor, cond, ◌&&◌, ◌||◌}
use native.Mathlib.Omega.{arith}
use lib.Dec.{eqb}
use borrow.Author.Tests.{eqb-true}
use Rattle.ring.proofs.Cases.{yes, no, is, same, different, eqb_refl, test, tell_apart, keep_apart, two, impossible}
use Rattle.blossom.specs.Internal.Labels.{Even, Odd, odd?}
use Rattle.blossom.specs.Internal.Rows.{Symmetric}
use Rattle.blossom.specs.Internal.State.{State, below, Invariant}
use Rattle.blossom.proofs.Absorb.{hangs, below_odd, same_above}
use Rattle.blossom.proofs.Shrunk.{merged, Blossom}
use Rattle.blossom.proofs.LabelLaws.{is_free, is_even, is_odd, is_frozen, label_case}
use Rattle.blossom.proofs.Tree.{acyclic, transitive}

-- the odd vertices of the cycle that the edge from x to y closes
abbrev pub cycle : (ℕ → ℕ) → State → ℕ → ℕ → ℕ → Bool
cycle M s x y v = odd? (s.label v) && xor (below M s v x) (below M s v y)

pub cycle_odd : (M : ℕ → ℕ) (s : State) (x y v : ℕ) → cycle M s x y v ≡ true → s.label v ≡ Odd
cycle_odd M s x y v a = elim (label_case (s.label v)) [ is_free e ↦ cc | is_even e ↦ cc | is_odd e ↦ e | is_frozen e ↦ cc ]

-- it has no direction
pub cycle_symmetric : (M : ℕ → ℕ) (s : State) (x y v : ℕ) → cycle M s x y v ≡ cycle M s y x v
unfolding xor
cycle_symmetric M s x y v = elim (is (below M s v x)) [
  | yes e ↦ elim (is (below M s v y)) [ yes f ↦ cc | no f ↦ cc ]
  | no e ↦ elim (is (below M s v y)) [ yes f ↦ cc | no f ↦ cc ]
]

-- b is a base on the walk up from x: outside of A, the same odd vertices are above b as above x
pub record Walk (M : ℕ → ℕ) (s : State) (A : ℕ → Bool) (x b : ℕ) : Type 0 where
  pub is_base : two (s.label b) (s.base b) ≡ two Even b
  pub level : (t : ℕ) → s.label t ≡ Odd → A t ≡ false → below M s t x ≡ below M s t b

module _ (adj : ℕ → ℕ → Bool) (symmetric : Symmetric adj) (M : ℕ → ℕ) (r : ℕ) (s : State) (I : Invariant adj M r s) where
  abbrev D : ℕ → ℕ → Bool
  D t z = below M s t z

  -- from a base to the next one the order falls
  pub walk_less : (b : ℕ) → s.label (M b) ≡ Odd → s.order (s.base (s.parent (M b))) < s.order b
  walk_less b ob =
      let m : M (M b) ≡ b = cc (I.mates b) in
      omega (arith, I.order_base (s.parent (M b)) (I.parent_even (M b) ob), rw m at (I.parent_order (M b) ob))

  -- where the walk ends, for any set A of odd vertices
  module _ (A : ℕ → Bool) (k : ℕ) (ek : s.label k ≡ Even) (bk : s.base k ≡ k) (nk : A (M k) ≡ false)
      (ao : (v : ℕ) → A v ≡ true → s.label v ≡ Odd) where
    -- k hangs from an odd vertex that stays odd, or is the root
    data BaseHangs : Type 0 where
      from_root : M k ≡ k → k ≡ r → BaseHangs
      from_odd : s.label (M k) ≡ Odd → D (M k) k ≡ true → BaseHangs

    base_hangs : BaseHangs
    base_hangs = let tk = I.base_mate k ek bk in elim (test (M k) k) [
      | same e f ↦ from_root e (eqb-true k r (cc (I.mate_even k ek)))
      | different e ↦ elim (label_case (s.label (M k))) [
        | is_free f ↦ impossible (cc)
        | is_even f ↦ impossible (cc)
        | is_frozen f ↦ impossible (cc)
        | is_odd f ↦ from_odd f (cc (I.below_parent (M k) k f ek (cc), eqb_refl (M k)))
      ]
    ]

    -- a vertex below the same odd vertices outside A as k has the base k, or its base hangs from A
    pub meets : (w : ℕ) → s.label w ≡ Even → ((t : ℕ) → s.label t ≡ Odd → A t ≡ false → D t w ≡ D t k)
        → (eqb (s.base w) k || A (M (s.base w))) ≡ true
    meets w ew h =
        let b : ℕ = s.base w in let bb = I.base_even w ew in let tb = I.base_mate b (cc) (cc) in
        elim (test b k) [
          | same e f ↦ cc
          | different d ↦ elim (test (M b) b) [
            | same e f ↦ elim base_hangs [
              | from_root i j ↦ let br = eqb-true b r (cc (I.mate_even b (cc))) in cc
              | from_odd i j ↦ cc (h (M k) i nk, I.below_root (M k) w i ew e)
            ]
            | different e ↦ elim (label_case (s.label (M b))) [
              | is_free f ↦ cc
              | is_even f ↦ cc
              | is_frozen f ↦ cc
              | is_odd ov ↦ let v : ℕ = M b in elim (is (A v)) [
                | yes i ↦ cc
                | no i ↦ elim base_hangs [
                  | from_root j u ↦ cc (h v ov i, I.below_root v k ov ek (cc), I.below_parent v w ov ew ov, eqb_refl v)
                  | from_odd j u ↦
                      let q : ℕ = M k in
                      let qv = keep_apart M (λ z. cc (I.mates z)) b k d in
                      let vq : D v (s.parent q) ≡ true = cc (
                        h v ov i,
                        I.below_parent v k ov ek (cc),
                        I.below_parent v w ov ew ov,
                        eqb_refl v,
                      ) in
                      let qp : D q (s.parent v) ≡ true = cc (h q j nk, I.below_parent q w j ew ov) in
                      cc (
                        transitive s.label s.parent s.order D (hangs adj symmetric M r s I) (s.parent q) (I.parent_even q j) q v
                            j ov qp vq,
                        acyclic s.label s.parent s.order D (hangs adj symmetric M r s I) q j (I.parent_even q j),
                      )
                ]
              ]
            ]
          ]
        ]

    -- of these, k came first
    first : (n w : ℕ) → s.order w < n → s.label w ≡ Even → ((t : ℕ) → s.label t ≡ Odd → A t ≡ false → D t w ≡ D t k)
        → s.order k ≤ s.order w
    first zero w l ew h = omega arith
    first (suc n) w l ew h =
        let b : ℕ = s.base w in let ob = I.order_base w ew in let me = meets w ew h in
        elim (test b k) [
          | same e f ↦ let u : s.order b ≡ s.order k = cc in omega arith
          | different d ↦
              let v : ℕ = M b in let av : A v ≡ true = cc in let ov = ao v av in let mv : M v ≡ b = cc (I.mates b) in
              let pv = rw mv at (I.parent_order v ov) in
              let u = first n (s.parent v) (omega arith) (I.parent_even v ov)
              (λ t ot nt. cc (h t ot nt, I.below_parent t w ot ew ov, (tell_apart A v t av nt).right)) in
              omega arith
        ]

  module _ (x y : ℕ) (ex : s.label x ≡ Even) (ey : s.label y ≡ Even) (axy : adj x y ≡ true) where
    abbrev A : ℕ → Bool
    A = cycle M s x y

    abbrev p : ℕ → ℕ
    p v = cond (D v x) x y

    abbrev q : ℕ → ℕ
    q v = cond (D v x) y x

    data In (v : ℕ) : Type 0 where
      above_x : s.label v ≡ Odd → D v x ≡ true → D v y ≡ false → In v
      above_y : s.label v ≡ Odd → D v x ≡ false → D v y ≡ true → In v

    in_cycle : (v : ℕ) → A v ≡ true → In v
    unfolding xor
    in_cycle v a = elim (label_case (s.label v)) [
      | is_free e ↦ impossible (cc)
      | is_even e ↦ impossible (cc)
      | is_frozen e ↦ impossible (cc)
      | is_odd e ↦ elim (is (D v x)) [
        | yes f ↦ elim (is (D v y)) [ yes g ↦ impossible (cc) | no g ↦ above_x e f g ]
        | no f ↦ elim (is (D v y)) [ yes g ↦ above_y e f g | no g ↦ impossible (cc) ]
      ]
    ]

    off_cycle : (t : ℕ) → s.label t ≡ Odd → A t ≡ false → D t x ≡ D t y
    unfolding xor
    off_cycle t o a = elim (is (D t x)) [
      | yes f ↦ elim (is (D t y)) [ yes g ↦ cc | no g ↦ cc ]
      | no f ↦ elim (is (D t y)) [ yes g ↦ cc | no g ↦ cc ]
    ]

    parent_level : (v t : ℕ) → A v ≡ true → s.label t ≡ Odd → A t ≡ false → D t (s.parent v) ≡ D t x
    parent_level v t a ot nt = let l = off_cycle t ot nt in elim (in_cycle v a) [
      | above_x o d e ↦ cc (same_above adj symmetric M r s I x y v ex ey o d e t ot l, below_odd adj symmetric M r s I t v ot o)
      | above_y o d e ↦ cc (same_above adj symmetric M r s I y x v ey ex o e d t ot (cc), below_odd adj symmetric M r s I t v ot o)
    ]

    -- k, where the walk up from x leaves the cycle, is the base of the blossom
    pub closes : (k : ℕ) → Walk M s A x k → A (M k) ≡ false → Blossom adj M s A p q x k
    closes k W nk = let wb = W.is_base in record {
      cycle_odd = cycle_odd M s x y;
      p_even = λ v a. elim (in_cycle v a) [ above_x o d e ↦ cc | above_y o d e ↦ cc ];
      q_even = λ v a. elim (in_cycle v a) [ above_x o d e ↦ cc | above_y o d e ↦ cc ];
      p_in = λ v a. elim (in_cycle v a) [ above_x o d e ↦ cc | above_y o d e ↦ cc ];
      q_out = λ v a. elim (in_cycle v a) [ above_x o d e ↦ cc | above_y o d e ↦ cc ];
      edge = λ v a. elim (in_cycle v a) [ above_x o d e ↦ cc | above_y o d e ↦ cc (symmetric x y) ];
      p_level = λ t v o n a. elim (in_cycle v a) [ above_x i d e ↦ cc | above_y i d e ↦ cc (off_cycle t o n) ];
      q_level = λ t v o n a. elim (in_cycle v a) [ above_x i d e ↦ cc (off_cycle t o n) | above_y i d e ↦ cc ];
      k_base = cc;
      k_level = W.level;
      k_order = λ v a. let pe = I.parent_even v (cycle_odd M s x y v a) in
          first A k (cc) (cc) nk (cycle_odd M s x y) (suc (s.order (s.parent v))) (s.parent v) (omega arith) pe
          (λ t ot nt. cc (parent_level v t a ot nt, W.level t ot nt));
    }

    -- both ends of the edge come into the new class
    pub joins : (k : ℕ) → Walk M s A x k → A (M k) ≡ false → two (merged M s A k x) (merged M s A k y) ≡ two true true
    joins k W nk =
        let wb = W.is_base in
        cc (
          meets A k (cc) (cc) nk (cycle_odd M s x y) x ex W.level,
          meets A k (cc) (cc) nk (cycle_odd M s x y) y ey (λ t ot nt. cc (off_cycle t ot nt, W.level t ot nt)),
        )

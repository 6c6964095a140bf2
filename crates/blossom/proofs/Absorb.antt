-- The row of an odd vertex v that a blossom absorbs: v is above the end p of the edge that closes the blossom, and not above its other end
-- q.
use Prim.Native.Nat.{ℕ}
use mathlib.Core.Path.{◌≡◌}
use mathlib.Core.Bool.{Bool, true, false, not, ◌||◌}
use native.Mathlib.Omega.{arith}
use lib.Dec.{eqb}
use borrow.Author.Tests.{eqb-true}
use Rattle.ring.proofs.Cases.{yes, no, is, same, different, eqb_refl, test, impossible}
use Rattle.blossom.specs.Internal.Labels.{Even, Odd}
use Rattle.blossom.specs.Internal.Rows.{Symmetric, IsRow, fixed}
use Rattle.blossom.specs.Internal.State.{State, below, Invariant}
use Rattle.blossom.proofs.LabelLaws.{is_free, is_even, is_odd, is_frozen, label_case, apart_by_even}
use Rattle.blossom.proofs.RowLaws.{combined_row, combined_row_is_row}
use Rattle.blossom.proofs.StateLaws.{exposed_is_root}
use Rattle.blossom.proofs.Tree.{Hangs, from_root, from_odd, acyclic, transitive, comparable}

-- the row of p below v, and of q elsewhere, with p and q paired and v exposed
abbrev pub absorbed_row : (ℕ → ℕ) → State → ℕ → ℕ → ℕ → ℕ → ℕ
absorbed_row M s p q v z = combined_row (below M s v) (s.row p) (s.row q) p q v z

module _ (adj : ℕ → ℕ → Bool) (symmetric : Symmetric adj) (M : ℕ → ℕ) (r : ℕ) (s : State) (I : Invariant adj M r s) where
  abbrev D : ℕ → ℕ → Bool
  D t z = below M s t z

  pub hangs : (z : ℕ) → s.label z ≡ Even → Hangs s.label s.parent s.order D z
  hangs z e =
      let b : ℕ = s.base z in let eb = I.base_even z e in let tb = I.base_mate b (cc) (cc) in
      elim (test (M b) b) [
        | same k l ↦ from_root (λ t o. I.below_root t z o e k)
        | different d ↦ elim (label_case (s.label (M b))) [
          | is_free k ↦ impossible (cc)
          | is_even k ↦ impossible (cc)
          | is_frozen k ↦ impossible (cc)
          | is_odd k ↦
              let mm : M (M b) ≡ b = cc (I.mates b) in
              from_odd (M b) k (I.parent_even (M b) k) (omega (arith, I.order_base z e, rw mm at (I.parent_order (M b) k)))
              (λ t o. I.below_parent t z o e k)
        ]
      ]

  pub below_mate : (t v : ℕ) → s.label t ≡ Odd → s.label v ≡ Odd → D t (M v) ≡ (eqb t v || D t (s.parent v))
  below_mate t v ot ov =
      let m : M (M v) ≡ v = cc (I.mates v) in let b = I.odd_mate v ov in
      cc (I.below_parent t (M v) ot (I.mate_odd v ov) (cc))

  pub below_odd : (t v : ℕ) → s.label t ≡ Odd → s.label v ≡ Odd → D t v ≡ D t (s.parent v)
  below_odd t v ot ov = let e = I.mate_odd v ov in elim (test v t) [
    | same k l ↦ cc (acyclic s.label s.parent s.order D hangs v ov (I.parent_even v ov))
    | different d ↦ cc (below_mate t v ot ov)
  ]

  pub closed : (v : ℕ) → s.label v ≡ Odd → (z : ℕ) → (D v z || eqb z v) ≡ true → (D v (M z) || eqb (M z) v) ≡ true
  closed v ov z h = elim (test z v) [
    | same e f ↦ cc (below_mate v v ov ov, eqb_refl v)
    | different d ↦ elim (label_case (s.label z)) [
      | is_free e ↦ cc
      | is_frozen e ↦ cc
      | is_odd e ↦ elim (is (D v (M z))) [ yes f ↦ cc | no f ↦ cc (I.mate_odd z e) ]
      | is_even e ↦ elim (is (D v z)) [
        | no f ↦ cc
        | yes f ↦ elim (test (s.base z) z) [
          | different g ↦ let i = I.inner_mate z e (cc) in cc (I.below_base v z ov e, I.below_base v (M z) ov (cc))
          | same g i ↦ let tz = I.base_mate z e g in elim (test (M z) z) [
            | same j k ↦ cc
            | different j ↦ elim (test (M z) v) [
              | same k l ↦ elim (is (D v (M z))) [ yes n ↦ cc | no n ↦ cc ]
              | different k ↦
                  elim (label_case (s.label (M z))) [ is_free n ↦ cc | is_even n ↦ cc | is_frozen n ↦ cc | is_odd n ↦ cc (I.mates z) ]
            ]
          ]
        ]
      ]
    ]
  ]

  module _ (p q v : ℕ) (ep : s.label p ≡ Even) (eq : s.label q ≡ Even) (ov : s.label v ≡ Odd) (vp : D v p ≡ true) (vq : D v q ≡ false)
    where
      -- what is above both p and q, or neither, is above v where it is above p
      pub same_above : (t : ℕ) → s.label t ≡ Odd → D t p ≡ D t q → D t v ≡ D t p
      same_above t ot same-pq =
          let tr = transitive s.label s.parent s.order D hangs in
          elim (is (D t (s.parent v))) [
            | yes e ↦ cc (tr p ep t v ot ov e vp, below_odd t v ot ov)
            | no e ↦ elim (is (D t p)) [
              | no f ↦ cc (below_odd t v ot ov)
              | yes f ↦ let k = comparable s.label s.parent s.order D hangs p ep t v ot ov f vp in elim (test t v) [
                | same g i ↦ cc
                | different g ↦ cc (tr q eq v t ov ot (cc) (cc))
              ]
            ]
          ]

      pub absorbed_row_is_row : adj p q ≡ true → IsRow adj (absorbed_row M s p q v) (fixed M r v)
      absorbed_row_is_row a =
          combined_row_is_row adj symmetric M (s.row p) (s.row q) (D v) r p q v (I.rows p ep) (I.rows q eq) vp vq (cc (eqb_refl v))
          (apart_by_even s.label q v (cc) (cc)) (λ z b. I.row_below v p z ov ep vp b) (λ z b. I.row_away v q z ov eq vq b)
          (eqb-true (s.row q v) (M v) (stays (cc))) (closed v ov) a (exposed_is_root adj M r s I p ep) (exposed_is_root adj M r s I q eq)
        where
          stays : not (eqb (s.row q v) (M v)) ≡ false → eqb (s.row q v) (M v) ≡ true
          stays h = elim (is (eqb (s.row q v) (M v))) [ yes e ↦ e | no e ↦ cc ]

-- The row of a vertex v that a blossom absorbs is made of the row of one end of the edge below v, and of the row of the other end
-- elsewhere: these differ only at the vertices of the cycle and of the classes that hang from it, which all join the blossom.
use Prim.Native.Nat.{ℕ}
use mathlib.Core.Path.{◌≡◌}
use mathlib.Core.Bool.{Bool, true, false, xor, cond, ◌&&◌}
use lib.Dec.{eqb}
use borrow.Author.Tests.{eqb-true}
use Rattle.ring.proofs.Cases.{yes, no, is, same, different, eqb_refl, test, impossible}
use Rattle.blossom.specs.Internal.Labels.{Even, Odd, even?}
use Rattle.blossom.specs.Internal.Rows.{Symmetric}
use Rattle.blossom.specs.Internal.State.{State, below, Invariant}
use Rattle.blossom.proofs.Absorb.{hangs, below_odd}
use Rattle.blossom.proofs.Cycle.{cycle}
use Rattle.blossom.proofs.LabelLaws.{is_free, is_even, is_odd, is_frozen, label_case}
use Rattle.blossom.proofs.Tree.{transitive}

-- v is on the cycle, above x and not above y
module _ (adj : ℕ → ℕ → Bool) (symmetric : Symmetric adj) (M : ℕ → ℕ) (r : ℕ) (s : State) (I : Invariant adj M r s)
    (x y v : ℕ) (ex : s.label x ≡ Even) (ey : s.label y ≡ Even) (ov : s.label v ≡ Odd) (vx : below M s v x ≡ true)
    (vy : below M s v y ≡ false) where
  abbrev D : ℕ → ℕ → Bool
  D t z = below M s t z

  abbrev A : ℕ → Bool
  A = cycle M s x y

  -- what hangs below v and is above x is on the cycle too
  lower_on_cycle : (t : ℕ) → s.label t ≡ Odd → D v (s.parent t) ≡ true → D t x ≡ true → A t ≡ true
  unfolding xor
  lower_on_cycle t ot vt tx = elim (is (D t y)) [
    | yes e ↦ cc (transitive s.label s.parent s.order D (hangs adj symmetric M r s I) y ey v t ov ot vt e)
    | no e ↦ cc
  ]

  pub kept_row : (z : ℕ) → A z ≡ false → (even? (s.label z) && A (M (s.base z))) ≡ false → D v z ≡ true → s.row x z ≡ s.row y z
  unfolding xor
  kept_row z nz nb d = let away = I.row_away v y z ov ey vy d in elim (label_case (s.label z)) [
    | is_free e ↦ cc
    | is_frozen e ↦ cc
    | is_odd e ↦ elim (is (eqb (s.row x z) (M z))) [
      | yes f ↦ cc (eqb-true (s.row x z) (M z) f)
      | no f ↦ impossible (cc (lower_on_cycle z e (cc (below_odd adj symmetric M r s I v z ov e)) (cc)))
    ]
    | is_even e ↦
        let b : ℕ = s.base z in let eb = I.base_even z e in let tb = I.base_mate b (cc) (cc) in
        elim (test (M b) b) [
          | same f g ↦ impossible (cc (I.below_root v z ov e f))
          | different f ↦ elim (label_case (s.label (M b))) [
            | is_free g ↦ impossible (cc)
            | is_even g ↦ impossible (cc)
            | is_frozen g ↦ impossible (cc)
            | is_odd ot ↦ elim (is (D (M b) x)) [
              | no g ↦ cc (I.row_away (M b) x z ot ex g (cc (I.below_parent (M b) z ot e ot, eqb_refl (M b))))
              | yes g ↦ elim (test v (M b)) [
                | same i j ↦ impossible (cc)
                | different i ↦ impossible (cc (lower_on_cycle (M b) ot (cc (I.below_parent v z ov e ot)) g))
              ]
            ]
          ]
        ]
  ]

  -- so the two rows that make the row of v are together the row of y, at every z that does not join
  pub kept_either : (z : ℕ) → A z ≡ false → (even? (s.label z) && A (M (s.base z))) ≡ false
      → cond (D v z) (s.row x z) (s.row y z) ≡ s.row y z
  kept_either z nz nb = elim (is (D v z)) [ yes d ↦ cc (kept_row z nz nb d) | no d ↦ cc ]

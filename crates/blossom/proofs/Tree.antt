-- The order in the tree, from the parents alone: `D t z` says that z is below the odd t. It is transitive and acyclic, and any two above
-- one z are comparable.
use Prim.Native.Nat.{ℕ, zero, suc, ◌<◌}
use mathlib.Core.Path.{◌≡◌}
use mathlib.Core.Bool.{Bool, true, false, ◌||◌, true≢false}
use native.Mathlib.Omega.{arith}
use lib.Dec.{eqb}
use Rattle.ring.proofs.Cases.{yes, no, is, same, different, test}
use Rattle.blossom.specs.Internal.Labels.{Label, Even, Odd}

-- where an even z hangs: from the root, with no odd vertex above it, or from the odd q, and then what is above it is q and what is above
-- the parent of q
pub data Hangs (label : ℕ → Label) (parent order : ℕ → ℕ) (D : ℕ → ℕ → Bool) (z : ℕ) : Type 0 where
  from_root : ((t : ℕ) → label t ≡ Odd → D t z ≡ false) → Hangs label parent order D z
  from_odd : (q : ℕ) → label q ≡ Odd → label (parent q) ≡ Even → order (parent q) < order z
      → ((t : ℕ) → label t ≡ Odd → D t z ≡ (eqb t q || D t (parent q))) → Hangs label parent order D z

module _ (label : ℕ → Label) (parent order : ℕ → ℕ) (D : ℕ → ℕ → Bool) (up : (z : ℕ) → label z ≡ Even → Hangs label parent order D z) where
  order_below : (k z : ℕ) → order z < k → label z ≡ Even → (t : ℕ) → label t ≡ Odd → D t z ≡ true → order (parent t) < order z
  order_below zero z h e t o d = omega arith
  order_below (suc k) z h e t o d = elim (up z e) [
    | from_root n ↦ absurd (true≢false (cc (n t o)))
    | from_odd q oq ep lt w ↦ elim (test t q) [
      | same s f ↦ let x : order (parent t) ≡ order (parent q) = cc in omega arith
      | different f ↦ omega (arith, order_below k (parent q) (omega arith) ep t o (cc (w t o)))
    ]
  ]

  pub acyclic : (t : ℕ) → label t ≡ Odd → label (parent t) ≡ Even → D t (parent t) ≡ false
  acyclic t o e = elim (is (D t (parent t))) [
    | yes d ↦ absurd (n (order_below (suc (order (parent t))) (parent t) (omega arith) e t o d))
    | no d ↦ d
  ]
    where
      n : order (parent t) < order (parent t) → ⊥
      n h = omega arith

  transitive_upto : (k z : ℕ) → order z < k → label z ≡ Even → (t u : ℕ) → label t ≡ Odd → label u ≡ Odd
      → D t (parent u) ≡ true → D u z ≡ true → D t z ≡ true
  transitive_upto zero z h e t u ot ou d f = absurd (omega arith)
  transitive_upto (suc k) z h e t u ot ou d f = elim (up z e) [
    | from_root n ↦ cc (n u ou)
    | from_odd q oq ep lt w ↦ elim (test t q) [
      | same s g ↦ cc (w t ot)
      | different g ↦ elim (test u q) [
        | same s i ↦ cc (w t ot)
        | different i ↦ cc (w t ot, transitive_upto k (parent q) (omega arith) ep t u ot ou d (cc (w u ou)))
      ]
    ]
  ]

  pub transitive : (z : ℕ) → label z ≡ Even → (t u : ℕ) → label t ≡ Odd → label u ≡ Odd → D t (parent u) ≡ true → D u z ≡ true
      → D t z ≡ true
  transitive z = transitive_upto (suc (order z)) z (omega arith)

  comparable_upto : (k z : ℕ) → order z < k → label z ≡ Even → (t u : ℕ) → label t ≡ Odd → label u ≡ Odd
      → D t z ≡ true → D u z ≡ true → (eqb t u || (D t (parent u) || D u (parent t))) ≡ true
  comparable_upto zero z h e t u ot ou d f = absurd (omega arith)
  comparable_upto (suc k) z h e t u ot ou d f = elim (up z e) [
    | from_root n ↦ cc (n u ou)
    | from_odd q oq ep lt w ↦ elim (test t u) [
      | same s g ↦ cc
      | different g ↦ elim (test t q) [
        | same s i ↦ elim (is (D t (parent u))) [
          | yes j ↦ cc
          | no j ↦ cc (w u ou)
        ]
        | different i ↦ elim (test u q) [
          | same s j ↦ cc (w t ot)
          | different j ↦ comparable_upto k (parent q) (omega arith) ep t u ot ou (cc (w t ot)) (cc (w u ou))
        ]
      ]
    ]
  ]

  pub comparable : (z : ℕ) → label z ≡ Even → (t u : ℕ) → label t ≡ Odd → label u ≡ Odd
      → D t z ≡ true → D u z ≡ true → (eqb t u || (D t (parent u) || D u (parent t))) ≡ true
  comparable z = comparable_upto (suc (order z)) z (omega arith)

-- A walk up the tree from x against y: from base to base, over the mates of these, until one of them is above y too. It marks the odd
-- vertices of the cycle that are above x, and ends at the base of the blossom.
use Prim.Native.Nat.{ℕ}
use mathlib.Core.Path.{◌≡◌, sym}
use mathlib.Core.Bool.{Bool, true, false, not, xor, ◌&&◌, ◌||◌}
use lib.Dec.{eqb}
use Rattle.ring.proofs.Cases.{yes, no, is, same, different, eqb_refl, test, two, impossible}
use Rattle.blossom.specs.Internal.Labels.{Even, Odd, odd?}
use Rattle.blossom.specs.Internal.Rows.{Symmetric}
use Rattle.blossom.specs.Internal.State.{State, below, Invariant}
use Rattle.blossom.proofs.Absorb.{hangs}
use Rattle.blossom.proofs.Cycle.{cycle, Walk}
use Rattle.blossom.proofs.LabelLaws.{is_free, is_even, is_odd, is_frozen, label_case}
use Rattle.blossom.proofs.Tree.{transitive}

-- the walk has come to the base b: what is above x is marked, or above b
pub record Climbing (M : ℕ → ℕ) (s : State) (x y : ℕ) (marked : ℕ → Bool) (b : ℕ) : Type 0 where
  pub is_base : two (s.label b) (s.base b) ≡ two Even b
  pub marked_is : (t : ℕ) → s.label t ≡ Odd → below M s t x ≡ (marked t || below M s t b)
  pub marked_odd : (t : ℕ) → marked t ≡ true → s.label t ≡ Odd
  pub not_above : (t : ℕ) → marked t ≡ true → below M s t y ≡ false

-- the side of the cycle on which x is: what is above x and not above y
abbrev pub sided : (ℕ → ℕ) → State → ℕ → ℕ → ℕ → Bool
sided M s x y v = odd? (s.label v) && (below M s v x && not (below M s v y))

module _ (adj : ℕ → ℕ → Bool) (symmetric : Symmetric adj) (M : ℕ → ℕ) (r : ℕ) (s : State) (I : Invariant adj M r s) (x y : ℕ)
    (ex : s.label x ≡ Even) (ey : s.label y ≡ Even) where
  abbrev D : ℕ → ℕ → Bool
  D t z = below M s t z

  pub climb_begin : Climbing M s x y (λ t. false) (s.base x)
  climb_begin = record {
    is_base = I.base_even x ex;
    marked_is = λ t o. I.below_base t x o ex;
    marked_odd = λ t e. impossible (sym e);
    not_above = λ t e. impossible (sym e);
  }

  module _ (marked : ℕ → Bool) (b : ℕ) (C : Climbing M s x y marked b) where
    -- a base has no mate, or an odd one, from which it hangs
    pub climb_odd : eqb (M b) b ≡ false → s.label (M b) ≡ Odd
    climb_odd d = let w = C.is_base in let m = I.base_mate b (cc) (cc) in elim (label_case (s.label (M b))) [
      | is_free e ↦ impossible (cc)
      | is_even e ↦ impossible (cc)
      | is_odd e ↦ e
      | is_frozen e ↦ impossible (cc)
    ]

    hanging : (t : ℕ) → s.label t ≡ Odd → s.label (M b) ≡ Odd → D t b ≡ (eqb t (M b) || D t (s.parent (M b)))
    hanging t ot ob = let w = C.is_base in cc (I.below_parent t b ot (cc) (cc))

    pub climb_next : eqb (M b) b ≡ false → D (M b) y ≡ false → Climbing M s x y (λ t. eqb t (M b) || marked t) (s.base (s.parent (M b)))
    climb_next d n = let ob = climb_odd d in let ep = I.parent_even (M b) ob in record {
      is_base = I.base_even (s.parent (M b)) ep;
      marked_is = λ t ot. let h = hanging t ot ob in let c = C.marked_is t ot in let p = I.below_base t (s.parent (M b)) ot ep in
          elim (is (eqb t (M b)))
          [ yes e ↦ elim (is (marked t)) [ yes f ↦ cc | no f ↦ cc ] | no e ↦ elim (is (marked t)) [ yes f ↦ cc | no f ↦ cc ] ];
      marked_odd = λ t e. elim (test t (M b)) [ same f g ↦ cc | different f ↦ C.marked_odd t (cc) ];
      not_above = λ t e. elim (test t (M b)) [ same f g ↦ cc | different f ↦ C.not_above t (cc) ];
    }

    -- where the walk ends
    module _ (end : (eqb (M b) b || D (M b) y) ≡ true) where
      -- what is above b is above y
      above_both : (t : ℕ) → s.label t ≡ Odd → D t b ≡ true → D t y ≡ true
      above_both t ot h = let w = C.is_base in elim (test (M b) b) [
        | same e f ↦ impossible (cc (I.below_root t b ot (cc) (cc)))
        | different e ↦ let ob = climb_odd e.left in let k = hanging t ot ob in elim (test t (M b)) [
          | same f g ↦ cc
          | different f ↦ transitive s.label s.parent s.order D (hangs adj symmetric M r s I) y ey t (M b) ot ob (cc) (cc)
        ]
      ]

      pub climb_marks : (t : ℕ) → marked t ≡ sided M s x y t
      climb_marks t = elim (is (marked t)) [
        | yes e ↦ cc (C.marked_odd t e, C.not_above t e, C.marked_is t (C.marked_odd t e))
        | no e ↦ elim (label_case (s.label t)) [
          | is_free f ↦ cc
          | is_even f ↦ cc
          | is_frozen f ↦ cc
          | is_odd f ↦ elim (is (D t b)) [ yes g ↦ cc (C.marked_is t f, above_both t f g) | no g ↦ cc (C.marked_is t f) ]
        ]
      ]

      pub climb_ends : cycle M s x y (M b) ≡ false
      unfolding xor
      climb_ends = let w = C.is_base in elim (test (M b) b) [
        | same e f ↦ cc
        | different e ↦
            let ob = climb_odd e.left in let up = hanging (M b) ob ob in let c = C.marked_is (M b) ob in let g = eqb_refl (M b) in
            elim (is (marked (M b))) [ yes f ↦ cc (C.not_above (M b) f) | no f ↦ cc ]
      ]

      pub climb_walk : Walk M s (cycle M s x y) x b
      unfolding xor
      climb_walk = record {
        is_base = C.is_base;
        level = λ t ot n. let c = C.marked_is t ot in let k = climb_marks t in elim (is (marked t)) [
          | yes e ↦ impossible (cc (C.not_above t e))
          | no e ↦ cc
        ];
      }

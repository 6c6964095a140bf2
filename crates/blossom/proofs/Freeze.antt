-- A search ends with a tree in which every even vertex is scanned: its vertices are frozen.
use Prim.Native.Nat.{ℕ, suc}
use mathlib.Core.Path.{◌≡◌, refl}
use mathlib.Core.Bool.{Bool, true, false, not, cond}
use native.Mathlib.Omega.{arith}
use borrow.Author.Tests.{eqb-false}
use Rattle.ring.proofs.Cases.{same, different, test}
use Rattle.blossom.specs.Internal.Certificate.{Certificate, BetweenSearches}
use Rattle.blossom.specs.Internal.Labels.{Label, Free, Even, Odd, Frozen, even?, odd?, free?}
use Rattle.blossom.specs.Internal.Rows.{Symmetric}
use Rattle.blossom.specs.Internal.Searches.{Searching}
use Rattle.blossom.specs.Internal.State.{State, Invariant}
use Rattle.blossom.proofs.LabelLaws.{is_free, is_even, is_odd, is_frozen, label_case}

-- the labels of the frozen vertices afterwards
abbrev pub frozen_labels : State → (ℕ → Label) → ℕ → Label
frozen_labels s label z = cond (even? (s.label z)) Even (cond (odd? (s.label z)) Odd (label z))

module _ (adj : ℕ → ℕ → Bool) (symmetric : Symmetric adj) (M : ℕ → ℕ) (label : ℕ → Label) (base : ℕ → ℕ) (r : ℕ)
    (O : BetweenSearches adj M label base r) (s : State) (done : ℕ → Bool) (S : Searching adj M label base r s done)
    (all : (x : ℕ) → s.label x ≡ Even → done x ≡ true) where
  abbrev F : Certificate adj M label base
  F = O.certificate

  abbrev I : Invariant adj M r s
  I = S.invariant

  data At (z : ℕ) : Type 0 where
    at_even : s.label z ≡ Even → label z ≡ Free → At z
    at_odd : s.label z ≡ Odd → label z ≡ Free → At z
    at_free : s.label z ≡ Free → label z ≡ Free → At z
    at_frozen : s.label z ≡ Frozen → free? (label z) ≡ false → At z

  at : (z : ℕ) → At z
  at z = let l = S.frozen_label z in elim (label_case (s.label z)) [
    | is_free e ↦ at_free e (not_frozen (label z) (cc))
    | is_even e ↦ at_even e (not_frozen (label z) (cc))
    | is_odd e ↦ at_odd e (not_frozen (label z) (cc))
    | is_frozen e ↦ at_frozen e (is_not (free? (label z)) (cc))
  ]
    where
      is_not : (b : Bool) → not b ≡ true → b ≡ false
      is_not true e = cc
      is_not false e = refl

      not_frozen : (l : Label) → not (free? l) ≡ false → l ≡ Free
      not_frozen Free e = refl
      not_frozen Even e = cc
      not_frozen Odd e = cc
      not_frozen Frozen e = cc

  certificate_grows : Certificate adj M (frozen_labels s label) s.base
  certificate_grows = record {
    even_free = λ x y e f. elim (at y) [
      | at_even i j ↦ cc
      | at_odd i j ↦ cc
      | at_frozen i j ↦ cc
      | at_free i j ↦ elim (at x) [
        | at_even g h ↦ S.scanned.done_free x y (all x g) i
        | at_odd g h ↦ cc
        | at_free g h ↦ cc
        | at_frozen g h ↦ F.even_free x y (cc) j
      ]
    ];
    even_even = λ x y e f a. elim (at x) [
      | at_odd g h ↦ cc
      | at_free g h ↦ cc
      | at_even g h ↦ elim (at y) [
        | at_odd i j ↦ cc
        | at_free i j ↦ cc
        | at_even i j ↦ cc (S.scanned.done_base x y (all x g) (all y i) a)
        | at_frozen i j ↦ cc (F.even_free y x (cc) h, symmetric x y)
      ]
      | at_frozen g h ↦ elim (at y) [
        | at_odd i j ↦ cc
        | at_free i j ↦ cc
        | at_even i j ↦ cc (F.even_free x y (cc) j)
        | at_frozen i j ↦ cc (F.even_even x y (cc) (cc) a, S.frozen_base x h, S.frozen_base y j)
      ]
    ];
    inner_mate = λ z e n. elim (at z) [
      | at_odd g h ↦ cc
      | at_free g h ↦ cc
      | at_even g h ↦ cc (I.inner_mate z g (cc))
      | at_frozen g h ↦
          let b = S.frozen_base z h in let i = F.inner_mate z (cc) (cc) in cc (I.mate_frozen z g, S.frozen_base (M z) (cc))
    ];
    base_mate = λ z e b. elim (at z) [
      | at_odd g h ↦ cc
      | at_free g h ↦ cc
      | at_even g h ↦ let t = I.base_mate z g (cc) in elim (test (M z) z) [
        | same i j ↦ cc
        | different i ↦ elim (label_case (s.label (M z))) [ is_free j ↦ cc | is_even j ↦ cc | is_odd j ↦ cc | is_frozen j ↦ cc ]
      ]
      | at_frozen g h ↦ cc (F.base_mate z (cc) (cc (S.frozen_base z h)), I.mate_frozen z g)
    ];
    odd_mate = λ z o. elim (at z) [
      | at_even g h ↦ cc
      | at_free g h ↦ cc
      | at_odd g h ↦ cc (I.mate_odd z g)
      | at_frozen g h ↦ cc (F.odd_mate z (cc), I.mate_frozen z g)
    ];
    free_mate = λ z f. elim (at z) [
      | at_even g h ↦ cc
      | at_odd g h ↦ cc
      | at_free g h ↦ cc (F.free_mate z h, I.mate_free z g)
      | at_frozen g h ↦ cc
    ];
    none_frozen = λ z. elim (at z) [ at_even g h ↦ cc | at_odd g h ↦ cc | at_free g h ↦ cc | at_frozen g h ↦ cc (F.none_frozen z) ];
  }

  pub freezes : BetweenSearches adj M (frozen_labels s label) s.base (suc r)
  freezes = record {
    mates = O.mates;
    certificate = certificate_grows;
    exposed_frozen = λ z l e. elim (test z r) [
      | same i j ↦ cc I.root
      | different i ↦
          let b = O.exposed_frozen z (omega (arith, eqb-false z r i.left)) e in let k = S.frozen_label z in
          elim (label_case (s.label z)) [ is_free u ↦ cc | is_even u ↦ cc | is_odd u ↦ cc | is_frozen u ↦ cc ]
    ];
  }

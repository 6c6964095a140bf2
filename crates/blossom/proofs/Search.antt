-- The outer loop: a search begins from each exposed vertex that is not frozen.
use Prim.Native.Nat.{ℕ, suc}
use mathlib.Core.Path.{◌≡◌, refl}
use mathlib.Core.Bool.{Bool, false, not}
use native.Mathlib.Omega.{arith}
use borrow.Author.Tests.{eqb-false}
use Rattle.ring.proofs.Cases.{yes, no, is, same, different, test}
use Rattle.blossom.specs.Internal.Certificate.{BetweenSearches}
use Rattle.blossom.specs.Internal.Labels.{Label, Free, free?}
use Rattle.blossom.specs.Internal.Rows.{Mates}
use Rattle.blossom.specs.Internal.Searches.{Searching}
use Rattle.blossom.specs.Internal.State.{State}
use Rattle.blossom.proofs.LabelLaws.{is_free, is_even, is_odd, is_frozen, label_case}
use Rattle.blossom.proofs.Start.{IsStart, starts}

pub between_start : (adj : ℕ → ℕ → Bool) (M base : ℕ → ℕ) → Mates adj M → BetweenSearches adj M (λ z. Free) base 0
between_start adj M base w = record {
  mates = w;
  certificate = record {
    even_free = λ x y e f. cc;
    even_even = λ x y e f a. cc;
    inner_mate = λ z e n. cc;
    base_mate = λ z e b. cc;
    odd_mate = λ z o. cc;
    free_mate = λ z f. refl;
    none_frozen = λ z. refl;
  };
  exposed_frozen = λ z l e. absurd (omega arith);
}

module _ (adj : ℕ → ℕ → Bool) (M : ℕ → ℕ) (label : ℕ → Label) (base : ℕ → ℕ) (r : ℕ) (O : BetweenSearches adj M label base r) where
  -- r is covered, or frozen: no search
  pub between_skip : (M r ≡ r → free? (label r) ≡ false) → BetweenSearches adj M label base (suc r)
  between_skip h = record {
    mates = O.mates;
    certificate = O.certificate;
    exposed_frozen = λ z l e. elim (test z r) [
      | same i j ↦ cc (h (cc))
      | different i ↦ O.exposed_frozen z (omega (arith, eqb-false z r i.left)) e
    ];
  }

  frozen_mate : (z : ℕ) → not (free? (label (M z))) ≡ not (free? (label z))
  frozen_mate z = let F = O.certificate in let w = O.mates z in elim (label_case (label z)) [
    | is_free e ↦ cc (F.free_mate z e)
    | is_frozen e ↦ cc (F.none_frozen z)
    | is_odd e ↦ cc (F.odd_mate z e)
    | is_even e ↦
        elim (label_case (label (M z))) [ is_free f ↦ cc (F.free_mate (M z) f) | is_even f ↦ cc | is_odd f ↦ cc | is_frozen f ↦ cc ]
  ]

  -- a search begins at r
  pub search_begin : M r ≡ r → label r ≡ Free → (s : State) → IsStart M (λ z. not (free? (label z))) r s
      → ((z : ℕ) → free? (label z) ≡ false → s.base z ≡ base z) → Searching adj M label base r s (λ z. false)
  search_begin e f s S b = record {
    invariant = starts adj M O.mates (λ z. not (free? (label z))) frozen_mate r e s S;
    frozen_label = λ z. let l = S.labels z in elim (test z r) [
      | same i j ↦ cc
      | different i ↦ elim (is (free? (label z))) [ yes g ↦ cc | no g ↦ cc ]
    ];
    frozen_base = b;
    scanned = record { done_even = λ x d. cc; done_free = λ x y d g. cc; done_base = λ x y d g a. cc };
  }

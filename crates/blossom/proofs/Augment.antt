-- A search ends with a larger matching: the row of an even vertex x, with x and its free exposed neighbour y paired.
use Prim.Native.Nat.{ℕ, suc}
use mathlib.Core.Path.{◌≡◌}
use mathlib.Core.Bool.{Bool, true, false, not, ◌&&◌}
use native.Mathlib.Omega.{arith}
use lib.Dec.{eqb}
use borrow.Author.Tests.{eqb-true, eqb-false}
use Rattle.ring.proofs.Cases.{Apart, same, different, eqb_refl, test, tell_apart, impossible}
use Rattle.blossom.specs.Internal.Certificate.{Certificate, BetweenSearches}
use Rattle.blossom.specs.Internal.Labels.{Label, Free, Even, free?}
use Rattle.blossom.specs.Internal.Rows.{Symmetric, IsRow, fixed}
use Rattle.blossom.specs.Internal.Searches.{Searching}
use Rattle.blossom.specs.Internal.State.{State}
use Rattle.blossom.proofs.LabelLaws.{is_free, is_even, is_odd, is_frozen, label_case, apart_by_even}
use Rattle.blossom.proofs.RowLaws.{paired, paired_is_row}

module _ (adj : ℕ → ℕ → Bool) (symmetric : Symmetric adj) (M : ℕ → ℕ) (label : ℕ → Label) (base : ℕ → ℕ) (r : ℕ)
    (O : BetweenSearches adj M label base r) (s : State) (done : ℕ → Bool) (S : Searching adj M label base r s done)
    (x y : ℕ) (ex : s.label x ≡ Even) (fy : s.label y ≡ Free) (my : M y ≡ y) (a : adj x y ≡ true) where
  abbrev after : ℕ → ℕ
  after = paired (s.row x) x y

  after_row : IsRow adj after (λ z. not (eqb z x) && (not (eqb z y) && fixed M r x z))
  after_row =
      let I = S.invariant in let rx = eqb-true (s.row x x) x (cc (I.rows x ex x, eqb_refl x)) in
      paired_is_row adj symmetric (s.row x) (fixed M r x) (I.rows x ex) x y rx (cc (I.row_free x y ex fy))
      (apart_by_even s.label x y (cc) (cc)) a

  -- what was covered stays so, and r is covered now
  pub covers : (z : ℕ) → after z ≡ z → (M z ≡ z) × Apart z r
  covers z e = let w = after_row z in let u : eqb (after z) z ≡ true = cc (eqb_refl z) in elim (test z x) [
    | same f g ↦ impossible (cc)
    | different f ↦ elim (test z y) [
      | same g h ↦ impossible (cc)
      | different g ↦ elim (test (M z) z) [
        | different h ↦ impossible (cc)
        | same h i ↦ elim (test z r) [ same j k ↦ impossible (cc) | different j ↦ (h, j) ]
      ]
    ]
  ]

  -- the frozen vertices keep their mates
  frozen_mate : (z : ℕ) → free? (label z) ≡ false → after z ≡ M z
  frozen_mate z f = let l = S.frozen_label z in elim (label_case (s.label z)) [
    | is_free e ↦ cc
    | is_even e ↦ cc
    | is_odd e ↦ cc
    | is_frozen e ↦ cc (
      (apart_by_even s.label x z (cc) (cc)).right,
      (tell_apart (λ z. free? (s.label z)) y z (cc) (cc)).right,
      S.invariant.row_frozen x z ex e,
    )
  ]

  free_back : (z : ℕ) → label z ≡ Free → free? (label (after z)) ≡ false → label (after z) ≡ Free
  free_back z f n =
      let o = frozen_mate (after z) n in let w = after_row z in let m = O.mates (after z) in
      cc (O.certificate.free_mate (M (after z)) (cc))

  certificate_stays : Certificate adj after label s.base
  certificate_stays = let F = O.certificate in record {
    even_free = F.even_free;
    even_even = λ u v e f i. cc (F.even_even u v e f i, S.frozen_base u (cc), S.frozen_base v (cc));
    inner_mate = λ z e n.
        let b = S.frozen_base z (cc) in let i = F.inner_mate z e (cc) in cc (frozen_mate z (cc), S.frozen_base (M z) (cc));
    base_mate = λ z e b. cc (F.base_mate z e (cc (S.frozen_base z (cc))), frozen_mate z (cc));
    odd_mate = λ z o. cc (F.odd_mate z o, frozen_mate z (cc));
    free_mate = λ z f. elim (label_case (label (after z))) [
      | is_free e ↦ e
      | is_frozen e ↦ cc (F.none_frozen (after z))
      | is_even e ↦ free_back z f (cc)
      | is_odd e ↦ free_back z f (cc)
    ];
    none_frozen = F.none_frozen;
  }

  pub augments : BetweenSearches adj (paired (s.row x) x y) label s.base (suc r)
  augments = record {
    mates = λ z. cc (after_row z);
    certificate = certificate_stays;
    exposed_frozen = λ z l e. let (m, d) = covers z e in O.exposed_frozen z (omega (arith, eqb-false z r d.left)) m;
  }

-- A search starts: the root r is even, with M as its row, and every other vertex is free or frozen.
use Prim.Native.Nat.{ℕ, ◌<◌}
use mathlib.Core.Path.{◌≡◌}
use mathlib.Core.Bool.{Bool, true, false, cond}
use native.Mathlib.Omega.{arith}
use lib.Dec.{eqb}
use Rattle.ring.proofs.Cases.{yes, no, is, Apart, same, different, eqb_refl, test, keep_apart, impossible}
use Rattle.blossom.specs.Internal.Labels.{Free, Even, Odd, Frozen}
use Rattle.blossom.specs.Internal.Rows.{Mates}
use Rattle.blossom.specs.Internal.State.{State, Invariant}

pub record IsStart (M : ℕ → ℕ) (frozen : ℕ → Bool) (r : ℕ) (s : State) : Type 0 where
  pub labels : (z : ℕ) → s.label z ≡ cond (eqb z r) Even (cond (frozen z) Frozen Free)
  pub root_base : s.base r ≡ r
  pub root_row : (z : ℕ) → s.row r z ≡ M z
  pub root_order : s.order r < s.clock

module _ (adj : ℕ → ℕ → Bool) (M : ℕ → ℕ) (mates : Mates adj M) (frozen : ℕ → Bool) (mf : (z : ℕ) → frozen (M z) ≡ frozen z)
    (r : ℕ) (rr : M r ≡ r) (s : State) (S : IsStart M frozen r s) where
  data At (z : ℕ) : Type 0 where
    at_root : z ≡ r → eqb z r ≡ true → s.label z ≡ Even → At z
    at_frozen : Apart z r → Apart (M z) r → frozen z ≡ true → s.label z ≡ Frozen → At z
    at_free : Apart z r → Apart (M z) r → frozen z ≡ false → s.label z ≡ Free → At z

  at : (z : ℕ) → At z
  at z = let l = S.labels z in elim (test z r) [
    | same e f ↦ at_root e f (cc)
    | different d ↦ let m = rw rr at (keep_apart M (λ z. cc (mates z)) z r d) in elim (is (frozen z)) [
      | yes e ↦ at_frozen d m e (cc)
      | no e ↦ at_free d m e (cc)
    ]
  ]

  no-odd {ℓ} : {X : Type ℓ} (t : ℕ) → s.label t ≡ Odd → X
  no-odd t o = elim (at t) [
    | at_root e f g ↦ absurd (impossible {A = ⊥} (cc))
    | at_frozen e f g h ↦ absurd (impossible {A = ⊥} (cc))
    | at_free e f g h ↦ absurd (impossible {A = ⊥} (cc))
  ]

  is_root : (x : ℕ) → s.label x ≡ Even → x ≡ r
  is_root x h = elim (at x) [ at_root e f g ↦ e | at_frozen e f g i ↦ impossible (cc) | at_free e f g i ↦ impossible (cc) ]

  pub starts : Invariant adj M r s
  starts = record {
    mates = mates;
    mate_free = λ z h. let l = S.labels (M z) in elim (at z) [ at_root e f g ↦ cc | at_frozen e f g i ↦ cc | at_free e f g i ↦ cc (mf z) ];
    mate_frozen = λ z h.
        let l = S.labels (M z) in
        elim (at z) [ at_root e f g ↦ cc | at_frozen e f g i ↦ cc (mf z) | at_free e f g i ↦ cc ];
    mate_odd = λ z h. no-odd z h;
    mate_even = λ z h. cc (is_root z h);
    root = cc (S.labels r, eqb_refl r);
    rows = λ x h z.
        let w = mates z in let e = is_root x h in let f = S.root_row z in let g = S.root_row (M z) in
        elim (test z r) [
          | same i j ↦ cc (eqb_refl r)
          | different i ↦ elim (is (eqb (M z) z)) [ yes j ↦ cc | no j ↦ cc ]
        ];
    row_free = λ x z h k. cc (is_root x h, S.root_row z);
    row_frozen = λ x z h k. cc (is_root x h, S.root_row z);
    row_below = λ t x z o. no-odd t o;
    row_away = λ t x z o. no-odd t o;
    base_even = λ z h. cc (is_root z h, S.root_base);
    inner_mate = λ z h n. cc (is_root z h, S.root_base);
    base_mate = λ z h b. cc (is_root z h, eqb_refl r);
    odd_mate = λ t o. no-odd t o;
    below_base = λ t z o. no-odd t o;
    order_base = λ z h. let e = is_root z h in let u : s.order (s.base z) ≡ s.order z = cc S.root_base in omega arith;
    order_clock = λ z h. let e = is_root z h in let u : s.order z ≡ s.order r = cc in omega (arith, S.root_order);
    parent_even = λ t o. no-odd t o;
    parent_order = λ t o. no-odd t o;
    below_root = λ t z o. no-odd t o;
    below_parent = λ t z o. no-odd t o;
  }

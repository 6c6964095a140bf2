-- Crossing is a relation of two chords, whichever comes first, and sharing an end is no crossing.
use Prim.Native.Nat.{ℕ, ◌≤◌, ◌<◌}
use mathlib.Core.Path.{◌≡◌, refl, ap}
use mathlib.Core.Logic.{◌⊎◌, inl, inr, ⊎_elim}
use mathlib.Core.Bool.{Bool, true, false, not, xor, ◌||◌}
use native.Mathlib.Omega.{arith}
use lib.Dec.{eqb, ltb}
use borrow.Author.Tests.{eq-eqb, ne_eqb, eqb-false, ltb-true, ltb-false, lt-ltb, le-ltb}
use Rattle.ring.specs.declared.requests.Request.{Request}
use Rattle.ring.specs.Chords.{inside, share_end, crosses, compatible}
use Rattle.ring.proofs.Cases.{yes, no, is, less, not_less, compare, impossible}
use Rattle.ring.proofs.WayLaws.{same_test}

-- what the test for a node strictly between the ends says
module _ (r : Request) (x : ℕ) where
  pub inside_if : r.a < x → x < r.b → inside r x ≡ true
  unfolding inside
  inside_if h k = cc (lt-ltb r.a x h, lt-ltb x r.b k)

  pub inside_lies : inside r x ≡ true → (r.a < x) × (x < r.b)
  unfolding inside
  inside_lies e = elim (is (ltb r.a x)) [
    | yes f ↦ (ltb-true r.a x f, ltb-true x r.b (cc))
    | no f ↦ impossible (cc)
  ]

  pub outside_before : x ≤ r.a → inside r x ≡ false
  unfolding inside
  outside_before h = cc (le-ltb r.a x h)

  pub outside_behind : r.b ≤ x → inside r x ≡ false
  outside_behind h = elim (is (inside r x)) [
    | yes e ↦ absurd (omega (arith, inside_lies e))
    | no e ↦ e
  ]

  pub outside_lies : inside r x ≡ false → (x ≤ r.a) ⊎ (r.b ≤ x)
  unfolding inside
  outside_lies e = elim (is (ltb r.a x)) [
    | yes f ↦ inr (ltb-false x r.b (cc))
    | no f ↦ inl (ltb-false r.a x f)
  ]

-- what the test for a common end says
pub record EndsDiffer (r s : Request) : Type 0 where
  pub first_first : r.a ≡ s.a → ⊥
  pub first_second : r.a ≡ s.b → ⊥
  pub second_first : r.b ≡ s.a → ⊥
  pub second_second : r.b ≡ s.b → ⊥

pub ends_differ : (r s : Request) → EndsDiffer r s → share_end r s ≡ false
unfolding share_end
ends_differ r s d = cc (
  ne_eqb r.a s.a d.first_first,
  ne_eqb r.a s.b d.first_second,
  ne_eqb r.b s.a d.second_first,
  ne_eqb r.b s.b d.second_second,
)

pub differ_ends : (r s : Request) → share_end r s ≡ false → EndsDiffer r s
unfolding share_end
differ_ends r s e =
    let none = none_of_four (eqb r.a s.a) (eqb r.a s.b) (eqb r.b s.a) (eqb r.b s.b) e in
    record {
      first_first = eqb-false r.a s.a none.0;
      first_second = eqb-false r.a s.b none.1;
      second_first = eqb-false r.b s.a none.2;
      second_second = eqb-false r.b s.b none.3;
    }
  where
    none_of_four : (p q t v : Bool) → ((p || q) || (t || v)) ≡ false → (p ≡ false) × (q ≡ false) × (t ≡ false) × (v ≡ false)
    none_of_four true q t v e = impossible e
    none_of_four false true t v e = impossible e
    none_of_four false false true v e = impossible e
    none_of_four false false false v e = (refl, refl, refl, e)

-- "Sharing an end, or being the same pair, is no crossing."
pub share_end_compatible : (r s : Request) → share_end r s ≡ true → compatible r s ≡ true
unfolding compatible crosses xor
share_end_compatible r s e = cc

pub same_pair_compatible : (r s : Request) → r.a ≡ s.a → r.b ≡ s.b → compatible r s ≡ true
unfolding share_end
same_pair_compatible r s e f = share_end_compatible r s (cc (eq-eqb r.a s.a e))

-- the ends alternate: the second request starts between the ends of the first, and ends behind them
pub record Alternate (r s : Request) : Type 0 where
  pub starts_behind : r.a < s.a
  pub starts_before : s.a < r.b
  pub ends_behind : r.b < s.b

-- chords cross exactly if their ends alternate, the one or the other first
pub crosses_alternate : (r s : Request) → r.a ≤ r.b → s.a ≤ s.b → crosses r s ≡ true → Alternate r s ⊎ Alternate s r
unfolding crosses xor
crosses_alternate r s h k e = elim (is (share_end r s)) [
  | yes f ↦ impossible (cc)
  | no f ↦
      let d = differ_ends r s f in
      elim (is (inside r s.a)) [
        | yes g ↦ elim (is (inside r s.b)) [
          | yes i ↦ impossible (cc)
          | no i ↦
              let l = inside_lies r s.a g in
              ⊎_elim (λ o. absurd (omega arith))
              (λ o. inl (record { starts_behind = l.0; starts_before = l.1; ends_behind = omega (arith, d.second_second) }))
              (outside_lies r s.b i)
        ]
        | no g ↦ elim (is (inside r s.b)) [
          | yes i ↦
              let l = inside_lies r s.b i in
              ⊎_elim (λ o. inr (record { starts_behind = omega (arith, d.first_first); starts_before = l.0; ends_behind = l.1 }))
              (λ o. absurd (omega arith))
              (outside_lies r s.a g)
          | no i ↦ impossible (cc)
        ]
      ]
]

pub alternate_crosses : (r s : Request) → Alternate r s → crosses r s ≡ true
unfolding crosses xor
alternate_crosses r s t = cc (
  ends_differ r s (omega arith),
  inside_if r s.a t.starts_behind t.starts_before,
  outside_behind r s.b (omega arith),
)

pub alternate_crossed : (r s : Request) → Alternate r s → crosses s r ≡ true
unfolding crosses xor
alternate_crossed r s t = cc (
  ends_differ s r (omega arith),
  outside_before s r.a (omega arith),
  inside_if s r.b t.starts_before t.ends_behind,
)

pub crosses_sym : (r s : Request) → r.a ≤ r.b → s.a ≤ s.b → crosses r s ≡ crosses s r
crosses_sym r s h k = same_test (crosses r s) (crosses s r) (turned r s h k) (turned s r k h)
  where
    turned : (r s : Request) → r.a ≤ r.b → s.a ≤ s.b → crosses r s ≡ true → crosses s r ≡ true
    turned r s h k e = ⊎_elim (alternate_crossed r s) (alternate_crosses s r) (crosses_alternate r s h k e)

pub compatible_sym : (r s : Request) → r.a ≤ r.b → s.a ≤ s.b → compatible r s ≡ compatible s r
unfolding compatible
compatible_sym r s h k = ap not (crosses_sym r s h k)

-- requests are compatible exactly if their ends do not alternate
pub compatible_if : (r s : Request) → r.a ≤ r.b → s.a ≤ s.b → (Alternate r s → ⊥) → (Alternate s r → ⊥) → compatible r s ≡ true
unfolding compatible
compatible_if r s h k p q = elim (is (crosses r s)) [
  | yes e ↦ absurd (⊎_elim p q (crosses_alternate r s h k e))
  | no e ↦ cc
]

pub compatible_only_if : (r s : Request) → compatible r s ≡ true → (Alternate r s → ⊥) × (Alternate s r → ⊥)
unfolding compatible
compatible_only_if r s e =
    (λ t. let c = alternate_crosses r s t in impossible (cc), λ t. let c = alternate_crossed s r t in impossible (cc))

-- if one end of the second lies strictly between the ends of the first, the other end lies within them
pub second_end_within : (r s : Request) → compatible r s ≡ true → inside r s.a ≡ true → s.b ≤ r.b
second_end_within r s c e = elim (compare r.b s.b) [
  | less h f ↦
      let l = inside_lies r s.a e in
      absurd ((compatible_only_if r s c).0 (omega arith))
  | not_less h f ↦ h
]

pub first_end_within : (r s : Request) → compatible r s ≡ true → inside r s.b ≡ true → r.a ≤ s.a
first_end_within r s c e = elim (compare s.a r.a) [
  | less h f ↦
      let l = inside_lies r s.b e in
      absurd ((compatible_only_if r s c).1 (omega arith))
  | not_less h f ↦ h
]

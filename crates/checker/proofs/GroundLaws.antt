-- The first refusal of a ground among the requests from one number on.
use Prim.Native.Nat.{ℕ, zero, suc, ◌+◌, ◌-◌, ◌≤◌, ◌<◌}
use mathlib.Core.Path.{◌≡◌, refl, sym, ap, ◌∙◌}
use native.Mathlib.Omega.{arith}
use borrow.Author.Tests.{eqb-false}
use Rattle.ring.specs.declared.refusals.Refusal.{Refusal}
use Rattle.ring.specs.Refusals.{Verdict}
use Rattle.std.specs.Prelude.{Ok, Err}
use Rattle.ring.specs.Refusals.{or_else}
use Rattle.ring.proofs.Cases.{same, different, test, impossible}
use Rattle.ring.proofs.AdmissionLaws.{both_allowed, allowed_both, says_allowed, says_refused, says}
use Rattle.checker.specs.Check.{first_ground}

-- the walk over the requests below m: a refusal of request i is the result, without one it goes on, and past the last request nothing is
-- refused
module _ (ground : ℕ → Verdict) (i m : ℕ) where
  pub ground_turn : i < m → first_ground ground i (m - i) ≡ or_else (ground i) (first_ground ground (i + 1) (m - (i + 1)))
  unfolding first_ground
  ground_turn h =
      let left : m - i ≡ suc (m - (i + 1)) = omega arith in
      ap (first_ground ground i) left

  pub ground_ended : m ≤ i → first_ground ground i (m - i) ≡ Ok tt
  unfolding first_ground
  ground_ended h =
      let left : m - i ≡ 0 = omega arith in
      ap (first_ground ground i) left

-- two grounds that say the same of each of the requests
pub first_same : (ground other : ℕ → Verdict) (i count : ℕ)
    → ((k : ℕ) → i ≤ k → k < i + count → ground k ≡ other k) → first_ground ground i count ≡ first_ground other i count
unfolding first_ground
first_same ground other i zero h = refl
first_same ground other i (suc count) h = cc (
  h i (omega arith) (omega arith),
  first_same ground other (i + 1) count (λ k l u. h k (omega arith) (omega arith)),
)

-- there is no refusal exactly if no request has one
pub first_none : (ground : ℕ → Verdict) (i count : ℕ) → first_ground ground i count ≡ (Ok tt)
    → (k : ℕ) → i ≤ k → k < i + count → ground k ≡ (Ok tt)
unfolding first_ground
first_none ground i zero e k l u = absurd (omega arith)
first_none ground i (suc count) e k l u =
    let both = both_allowed (ground i) (first_ground ground (i + 1) count) e in
    elim (test i k) [
      | same s t ↦ ap ground (sym s) ∙ both.0
      | different d ↦ first_none ground (i + 1) count both.1 k (omega (arith, eqb-false i k d.left)) (omega arith)
    ]

pub none_first : (ground : ℕ → Verdict) (i count : ℕ)
    → ((k : ℕ) → i ≤ k → k < i + count → ground k ≡ (Ok tt)) → first_ground ground i count ≡ (Ok tt)
unfolding first_ground
none_first ground i zero h = refl
none_first ground i (suc count) h =
    allowed_both (ground i) (first_ground ground (i + 1) count) (h i (omega arith) (omega arith))
    (none_first ground (i + 1) count (λ k l u. h k (omega arith) (omega arith)))

-- the request that is refused, with none refused before it
pub record FirstRefused (ground : ℕ → Verdict) (i count : ℕ) (r : Refusal) : Type 0 where
  pub place : ℕ
  pub from : i ≤ place
  pub below : place < i + count
  pub refused : ground place ≡ Err r
  pub before : (k : ℕ) → i ≤ k → k < place → ground k ≡ (Ok tt)

pub first_refused : (ground : ℕ → Verdict) (i count : ℕ) (r : Refusal) → first_ground ground i count ≡ Err r
    → FirstRefused ground i count r
unfolding first_ground
first_refused ground i zero r e = impossible (cc)
first_refused ground i (suc count) r e = elim (says (ground i)) [
  | says_refused q f ↦ record { place = i; from = omega arith; below = omega arith; refused = cc; before = λ k l u. absurd (omega arith) }
  | says_allowed f ↦
      let rest = first_refused ground (i + 1) count r (cc) in
      record {
        place = rest.place;
        from = omega (arith, rest.from);
        below = omega (arith, rest.below);
        refused = rest.refused;
        before = λ k l u. elim (test i k) [
          | same s t ↦ ap ground (sym s) ∙ f
          | different d ↦ rest.before k (omega (arith, eqb-false i k d.left)) u
        ];
      }
]

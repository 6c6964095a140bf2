-- Fate numbers in a table: those above 2w, and how many are not 0.
use Prim.Native.Nat.{ℕ, ◌+◌, ◌*◌, ◌≤◌}
use mathlib.Core.Path.{◌≡◌, sym, ◌∙◌}
use mathlib.Core.Bool.{true, not, cond}
use mathlib.Core.List.{List, ◌∷◌}
use native.Mathlib.Omega.{arith}
use lib.ListN.{get_or}
use lib.Dec.{eqb}
use borrow.Author.Tests.{eq-eqb, ne_eqb, le-ltb}
use Rattle.std.specs.Prelude.{Ok, count_by}
use Rattle.std.proofs.lemmas.List.Recursion.{is_count_by}
use Rattle.ring.specs.Fates.{fate_of}
use Rattle.ring.specs.Plans.{fates_of, served}
use Rattle.ring.proofs.Cases.{yes, no, is, impossible}
use Rattle.ring.proofs.FateLaws.{number_of_fate, number_blocked}
use Rattle.ring.proofs.PlanLaws.{served?, served_no, served_cons, served_none}
use Rattle.checker.specs.Check.{number_verdict}

-- 7 of one number
pub number_within : (w : ℕ) (numbers : List ℕ) (i : ℕ) → get_or numbers i 0 ≤ 2 * w → number_verdict w numbers i ≡ Ok tt
unfolding number_verdict
number_within w numbers i h = cc (le-ltb (2 * w) (get_or numbers i 0) h)

-- as many requests are served as numbers are not 0
served_number : (k : ℕ) → served? (fate_of k) ≡ true → k ≡ 0 → ⊥
unfolding fate_of
served_number k e z = impossible (cc)

counted_step : (k : ℕ) (numbers : List ℕ)
    → served (fates_of (k ∷ numbers)) ≡ cond (not (eqb k 0)) (1 + served (fates_of numbers)) (served (fates_of numbers))
counted_step k numbers = served_cons (fate_of k) (fates_of numbers) ∙ elim (is (served? (fate_of k))) [
  | yes e ↦ simp (e, ne_eqb k 0 (served_number k e)) (omega arith)
  | no e ↦ simp (e, eq-eqb k 0 (sym (number_of_fate k) ∙ number_blocked (fate_of k) (served_no (fate_of k) e))) (omega arith)
]

pub served_counted : (numbers : List ℕ) → count_by (λ k. not (eqb k 0)) numbers ≡ served (fates_of numbers)
served_counted numbers =
    sym (is_count_by (λ ks. served (fates_of ks)) (λ k. not (eqb k 0)) served_none counted_step numbers)

-- What the grounds 7 and 8 say of a table: no number above 2w, no two requests in conflict, and the first of either.
use Prim.Native.Nat.{ℕ, ◌+◌, ◌*◌, ◌-◌, ◌≤◌, ◌<◌}
use mathlib.Core.Path.{◌≡◌, sym, subst, ◌∙◌}
use mathlib.Core.Bool.{Bool, true, true≢false}
use mathlib.Core.List.{List}
use native.Mathlib.Omega.{arith}
use lib.Dec.{ltb}
use lib.ListN.{length, get_or}
use borrow.Author.Tests.{ltb-true, ltb-false}
use Rattle.ring.specs.declared.requests.Request.{Request}
use Rattle.ring.specs.declared.fates.Fate.{Fate}
use Rattle.ring.specs.declared.refusals.Refusal.{Refusal}
use Rattle.ring.specs.declared.refusals.Refusal.TheVariants.{FateNumber, Conflict}
use Rattle.std.specs.Prelude.{Ok, Err}
use Rattle.ring.specs.Requests.{request}
use Rattle.ring.specs.Ways.{share_link}
use Rattle.ring.specs.Plans.{fate, fates_of}
use Rattle.ring.proofs.Cases.{yes, no, is}
use Rattle.ring.proofs.WayLaws.{share_found, found_share}
use Rattle.ring.proofs.AdmissionLaws.{refuse_allowed, allowed_refuse, refuse_refused}
use Rattle.checker.specs.Check.{number_verdict, number_verdicts, conflicting, pair_verdict, later_verdict, pair_verdicts}
use Rattle.checker.specs.Decision.{InConflict, Fault, number, conflict}
use Rattle.checker.proofs.GroundLaws.{first_none, none_first, first_refused}
use Rattle.checker.proofs.NumberLaws.{number_within}
use Rattle.checker.proofs.ConflictLaws.{conflict_clash, one_colour}

-- 7 of one number, read back
module _ (w : ℕ) (numbers : List ℕ) (i : ℕ) where
  allowed_within : number_verdict w numbers i ≡ (Ok tt) → get_or numbers i 0 ≤ 2 * w
  unfolding number_verdict
  allowed_within e = ltb-false (2 * w) (get_or numbers i 0) (refuse_allowed (ltb (2 * w) (get_or numbers i 0)) (FateNumber i) e)

  refused_above : (r : Refusal) → number_verdict w numbers i ≡ Err r → (2 * w < get_or numbers i 0) × (r ≡ FateNumber i)
  unfolding number_verdict
  refused_above r e =
      let both = refuse_refused (ltb (2 * w) (get_or numbers i 0)) (FateNumber i) r e in
      (ltb-true (2 * w) (get_or numbers i 0) both.0, both.1)

-- 7 is not there exactly if no number is above 2w; if it is, it names the first
module _ (w : ℕ) (numbers : List ℕ) where
  pub numbers_within : number_verdicts w numbers ≡ (Ok tt) → (k : ℕ) → k < length numbers → get_or numbers k 0 ≤ 2 * w
  unfolding number_verdicts
  numbers_within e k h =
      allowed_within w numbers k (first_none (number_verdict w numbers) 0 (length numbers) e k (omega arith) (omega arith))

  pub within_numbers : ((k : ℕ) → k < length numbers → get_or numbers k 0 ≤ 2 * w) → number_verdicts w numbers ≡ (Ok tt)
  unfolding number_verdicts
  within_numbers h = none_first (number_verdict w numbers) 0 (length numbers) (λ k l u. number_within w numbers k (h k (omega arith)))

  pub number_fault : (n : ℕ) (R : List Request) (r : Refusal) → number_verdicts w numbers ≡ Err r → Fault n w R numbers r
  unfolding number_verdicts
  number_fault n R r e =
      let found = first_refused (number_verdict w numbers) 0 (length numbers) r e in
      let above = refused_above w numbers found.place r found.refused in
      subst (λ (q : Refusal). Fault n w R numbers q) (sym above.1) (number (record {
        listed = omega (arith, found.below);
        above = above.0;
        first = λ j l. allowed_within w numbers j (found.before j (omega arith) l);
      }))

-- 8 of one pair: the test finds the conflicts
module _ (n : ℕ) (R : List Request) (F : List Fate) (i j : ℕ) where
  test : Bool
  test = conflicting (share_link n) (fate F i) (request R i) (fate F j) (request R j)

  test_conflict : i < j → j < length R → test ≡ true → InConflict n R F i j
  unfolding test
  test_conflict h k e =
      let clash = conflict_clash (share_link n) (fate F i) (request R i) (fate F j) (request R j) e in
      let shared = share_found n clash.first_way (request R i) clash.second_way (request R j) clash.shares in
      record {
        before = h;
        listed = k;
        colour = clash.colour;
        first_way = clash.first_way;
        second_way = clash.second_way;
        first_served = clash.first;
        second_served = clash.second;
        link = shared.link;
        below = shared.below;
        first_uses = shared.first;
        second_uses = shared.second;
      }

  conflict_test : InConflict n R F i j → test ≡ true
  unfolding test
  conflict_test x = cc (
    x.first_served,
    x.second_served,
    one_colour (share_link n) x.first_way x.second_way x.colour (request R i) (request R j),
    found_share n x.first_way (request R i) x.second_way (request R j) x.link x.below x.first_uses x.second_uses,
  )

  allowed_apart : pair_verdict (share_link n) R F i j ≡ (Ok tt) → InConflict n R F i j → ⊥
  unfolding pair_verdict test
  allowed_apart e x = true≢false (sym (conflict_test x) ∙ refuse_allowed test (Conflict i j) e)

  apart_allowed : i < j → j < length R → (InConflict n R F i j → ⊥) → pair_verdict (share_link n) R F i j ≡ (Ok tt)
  unfolding pair_verdict test
  apart_allowed h k x = elim (is test) [
    | yes e ↦ absurd (x (test_conflict h k e))
    | no e ↦ allowed_refuse test (Conflict i j) e
  ]

  refused_conflict : i < j → j < length R → (r : Refusal) → pair_verdict (share_link n) R F i j ≡ Err r
      → InConflict n R F i j × (r ≡ Conflict i j)
  unfolding pair_verdict test
  refused_conflict h k r e =
      let both = refuse_refused test (Conflict i j) r e in
      (test_conflict h k both.0, both.1)

-- 8 is not there exactly if no two requests are in conflict
module _ (n : ℕ) (R : List Request) (F : List Fate) where
  later_apart : (i : ℕ) → later_verdict (share_link n) R F i ≡ (Ok tt) → (j : ℕ) → InConflict n R F i j → ⊥
  unfolding later_verdict
  later_apart i e j x =
      allowed_apart n R F i j
      (first_none (pair_verdict (share_link n) R F i) (i + 1) (length R - (i + 1)) e j (omega (arith, x.before))
      (omega (arith, x.before, x.listed))) x

  pub pairs_apart : pair_verdicts (share_link n) R F ≡ (Ok tt) → (i j : ℕ) → InConflict n R F i j → ⊥
  unfolding pair_verdicts
  pairs_apart e i j x =
      later_apart i (first_none (later_verdict (share_link n) R F) 0 (length R) e i (omega arith) (omega (arith, x.before, x.listed))) j x

  pub apart_pairs : ((i j : ℕ) → InConflict n R F i j → ⊥) → pair_verdicts (share_link n) R F ≡ (Ok tt)
  unfolding pair_verdicts later_verdict
  apart_pairs h =
      none_first (later_verdict (share_link n) R F) 0 (length R) (λ i a b.
      none_first (pair_verdict (share_link n) R F i) (i + 1) (length R - (i + 1)) (λ j c d.
      apart_allowed n R F i j (omega arith) (omega arith) (h i j)))

-- if it is, it names the lowest first, then lowest second request
module _ (n w : ℕ) (R : List Request) (numbers : List ℕ) where
  pub conflict_fault : number_verdicts w numbers ≡ (Ok tt) → (r : Refusal) → pair_verdicts (share_link n) R (fates_of numbers) ≡ Err r
      → Fault n w R numbers r
  unfolding pair_verdicts later_verdict
  conflict_fault a r e =
      let F = fates_of numbers in
      let first = first_refused (later_verdict (share_link n) R F) 0 (length R) r e in
      let i = first.place in
      let second = first_refused (pair_verdict (share_link n) R F i) (i + 1) (length R - (i + 1)) r first.refused in
      let j = second.place in
      let here = refused_conflict n R F i j (omega (arith, second.from)) (omega (arith, second.below)) r second.refused in
      subst (λ (q : Refusal). Fault n w R numbers q) (sym here.1) (conflict (record {
        numbers_within = numbers_within w numbers a;
        conflict = here.0;
        lowest_first = λ x y l. later_apart n R F x (first.before x (omega arith) l) y;
        lowest_second = λ y l x. allowed_apart n R F i y (second.before y (omega (arith, x.before)) l) x;
      }))

-- The size of a maximum matching, from one matching of that size and a bound for all; and the counts that follow.
use Prim.Native.Nat.{ℕ, zero, suc, ◌/◌, ◌≤◌, ◌<◌, min}
use mathlib.Core.Path.{◌≡◌, refl, sym, ap, ◌∙◌}
use mathlib.Core.Bool.{Bool, true, false, not, ◌&&◌, ◌||◌}
use mathlib.Core.List.{List, [], ◌∷◌, ◌++◌, map}
use native.Mathlib.Omega.{arith}
use lib.Dec.{eqb, ltb}
use lib.ListN.{length, get_or, drop}
use borrow.Author.Tests.{ltb-true, le-ltb}
use Rattle.ring.specs.declared.requests.Request.{Request}
use Rattle.ring.specs.Requests.{request, requests_of}
use Rattle.ring.specs.declared.refusals.Refusal.TheVariants.{TableShort}
use Rattle.std.specs.Prelude.{Ok}
use Rattle.ring.specs.Admission.{ring_verdict, list_verdict, call_verdict}
use Rattle.ring.proofs.AdmissionLaws.{allowed_both, allowed_refuse}
use Rattle.ring.specs.declared.fates.Fate.{Fate}
use Rattle.ring.specs.Fates.{fate_number}
use Rattle.ring.specs.Plans.{served}
use Rattle.ring.specs.Chords.{compatible}
use Rattle.ring.specs.Matchings.{Pair, pair, request_numbers, NoTwice, IsMatching, IsMaximum}
use Rattle.ring.proofs.Cases.{eqb_refl, impossible}
use Rattle.ring.proofs.Counting.{has}
use Rattle.chain.specs.ChainPart.{chain_part}
use Rattle.planner.specs.declared.answers.Summary.{Summary}
use Rattle.planner.specs.PairPart.{ByLower, pair_part, pair_count}
use Rattle.planner.specs.Plan.{better, part_used, plan_of, ceiling_of, summary}
use Rattle.planner.specs.Ceiling.{MatchBound}
use Rattle.planner.proofs.FillLaws.{pair_part_serves}
use Rattle.planner.proofs.PlanLaws.{plan_chain}
use Rattle.cases.specs.Table.{line2, PlansTo}

-- no number stands twice, as a test
abbrev pub distinct : List ℕ → Bool
distinct [] = true
distinct (x ∷ l) = not (has l x) && distinct l

both : (p q : Bool) → (p && q) ≡ true → (p ≡ true) × (q ≡ true)
both true q e = (refl, e)
both false q e = impossible (sym e)

has_entry : (l : List ℕ) (j : ℕ) → j < length l → has l (get_or l j 0) ≡ true
has_entry [] j h = absurd (omega arith)
has_entry (x ∷ l) zero h = cc (eqb_refl x)
has_entry (x ∷ l) (suc j) h = go (eqb (get_or l j 0) x) (has_entry l j (omega arith))
  where
    go : (b : Bool) → has l (get_or l j 0) ≡ true → (b || has l (get_or l j 0)) ≡ true
    go true e = refl
    go false e = e

distinct_once : (l : List ℕ) → distinct l ≡ true → NoTwice l
distinct_once [] e i j h k q = absurd (omega arith)
distinct_once (x ∷ l) e zero zero h k q = absurd (omega arith)
distinct_once (x ∷ l) e zero (suc j) h k q = impossible (cc ((both (not (has l x)) (distinct l) e).0, has_entry l j (omega arith)))
distinct_once (x ∷ l) e (suc i) zero h k q = absurd (omega arith)
distinct_once (x ∷ l) e (suc i) (suc j) h k q = distinct_once l (both (not (has l x)) (distinct l) e).1 i j (omega arith) (omega arith) q

-- the pairs are of compatible requests, as a test
abbrev pub all_pairs : List Request → List Pair → Bool
all_pairs R [] = true
all_pairs R (p ∷ P) = (ltb p.first (length R) && ltb p.second (length R))
    && (compatible (request R p.first) (request R p.second) && all_pairs R P)

pairs_ok : (R : List Request) (P : List Pair) → all_pairs R P ≡ true → (k : ℕ) → k < length P
    → (((pair P k).first < length R) × ((pair P k).second < length R))
    × (compatible (request R (pair P k).first) (request R (pair P k).second) ≡ true)
pairs_ok R [] e k h = absurd (omega arith)
pairs_ok R (p ∷ P) e zero h =
    let halves = both (ltb p.first (length R) && ltb p.second (length R))
    (compatible (request R p.first) (request R p.second) && all_pairs R P) e in
    let inside = both (ltb p.first (length R)) (ltb p.second (length R)) halves.0 in (
      (ltb-true p.first (length R) inside.0, ltb-true p.second (length R) inside.1),
      (both (compatible (request R p.first) (request R p.second)) (all_pairs R P) halves.1).0,
    )
pairs_ok R (p ∷ P) e (suc k) h =
    let halves = both (ltb p.first (length R) && ltb p.second (length R))
    (compatible (request R p.first) (request R p.second) && all_pairs R P) e in
    pairs_ok R P (both (compatible (request R p.first) (request R p.second)) (all_pairs R P) halves.1).1 k (omega arith)

-- both tests together make a matching
pub matching_if : (R : List Request) (P : List Pair) → all_pairs R P ≡ true → distinct (request_numbers P) ≡ true → IsMatching R P
matching_if R P e d = record {
  numbers = λ k h. (pairs_ok R P e k h).0;
  compatibles = λ k h. (pairs_ok R P e k h).1;
  once = distinct_once (request_numbers P) d;
}

-- what is computed of a case: the chain part, a matching, and that none is larger
pub record Computed (n w : ℕ) (R : List Request) (fates : List Fate) (pairs : List Pair) : Type 0 where
  pub chain : chain_part n w R ≡ fates
  pub matching : IsMatching R pairs
  pub bound : MatchBound R (length pairs)

module _ (n w : ℕ) (R : List Request) (fates : List Fate) (pairs : List Pair) (computed : Computed n w R fates pairs) (P : List Pair)
    (maximum : IsMaximum R P) where
  -- every maximum matching has the size of a matching than which none is larger
  pub size : length P ≡ length pairs
  size = omega (arith, computed.bound P maximum.matching, maximum.largest pairs computed.matching)

  -- the pair count
  abbrev pub pairs_serve : ℕ
  pairs_serve = pair_count (length R) w (min (length pairs) w)

  pub paired : served (pair_part n w R P) ≡ pairs_serve
  paired = pair_part_serves n w R P maximum.matching ∙ ap (λ k. pair_count (length R) w (min k w)) size

  -- the counts of line 2
  pub counts_are : summary n w R P
      ≡ line2 (served fates) (length pairs) pairs_serve (better (ltb (served fates) pairs_serve))
      (ceiling_of (length R) w (served fates) (length pairs))
  unfolding summary part_used
  counts_are = rw (computed.chain, size, paired)

  -- the plan, where the chain part serves enough
  pub chain_is_plan : pairs_serve ≤ served fates → plan_of n w R P ≡ fates
  chain_is_plan h = plan_chain n w R P (rw (computed.chain, paired) h) ∙ computed.chain

-- the counts of a list, and what is written for it, by one maximum matching
pub record Determined (n w : ℕ) (R : List Request) (counts : Summary) (Right : List ℕ → List ℕ → Type 0) (P : List Pair) : Type 0 where
  pub counted : summary n w R P ≡ counts
  pub written : (before : List ℕ) → Right before (map fate_number (plan_of n w R P) ++ drop (length R) before)

-- from them, for every maximum matching, to what a call of plan gives and writes
pub case_plans : {n w : ℕ} {ends : List ℕ} {counts : Summary} {Right : List ℕ → List ℕ → Type 0} → ring_verdict n w ≡ Ok tt
    → list_verdict n ends ≡ Ok tt → length ends / 2 ≡ length (requests_of ends)
    → ((P : List Pair) → IsMaximum (requests_of ends) P → ByLower P → Determined n w (requests_of ends) counts Right P)
    → PlansTo n w ends counts Right
unfolding call_verdict
case_plans {n} {w} {ends} {counts} {Right} ring list half each before after result room promise =
    let enough : ltb (length before) (length ends / 2) ≡ false = le-ltb (length before) (length ends / 2) (omega arith) in
    let made = promise.planned (allowed_both _ _ ring (allowed_both _ _ list (allowed_refuse _ TableShort enough))) in
    let determined = each made.pairs made.maximum made.by_lower in
    (made.counts ∙ ap Ok determined.counted, rw made.table (determined.written before))

-- where the fates are the same by every maximum matching
pub writes : {F fates : List Fate} (m : ℕ) → F ≡ fates → m ≡ length fates → (before : List ℕ)
    → map fate_number F ++ drop m before ≡ map fate_number fates ++ drop (length fates) before
writes m e f before = rw (e, f)

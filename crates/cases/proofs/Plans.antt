-- Cases T1 to T6: the chain parts by computation, the match counts by a matching of that size and a bound.
use Prim.Native.Nat.{ℕ, zero, suc, ◌*◌, ◌≤◌, ◌<◌, min}
use mathlib.Core.Path.{◌≡◌, refl, sym, ◌∙◌}
use mathlib.Core.Bool.{true, xor}
use mathlib.Core.List.{List, [], ◌∷◌, ◌++◌, map}
use mathlib.Core.Logic.{inl, inr}
use native.Mathlib.Omega.{arith}
use lib.ListN.{drop, replicate}
use Rattle.ring.specs.declared.fates.Fate.TheVariants.{Blocked, Served}
use Rattle.ring.specs.declared.ways.Way.TheVariants.{Plain, Seam}
use Rattle.ring.specs.Requests.{request, requests_of}
use Rattle.ring.specs.Ways.{uses, some_link, share_link, link_count}
use Rattle.ring.specs.Fates.{fate_of, fate_number}
use Rattle.ring.specs.Plans.{served, Feasible}
use Rattle.ring.specs.Chords.{inside, share_end, crosses, compatible}
use Rattle.ring.specs.Matchings.{Pair, pair, IsMaximum}
use Rattle.ring.specs.Routing.{twins, shorter_way, first_way, second_way}
use Rattle.ring.specs.Admission.{ring_verdict, ends_verdict, request_verdicts, count_verdict, list_verdict, call_verdict}
use Rattle.ring.proofs.AdmissionLaws.{ring_allowed}
use Rattle.ring.proofs.Cases.{impossible}
use Rattle.chain.specs.Order.{order}
use Rattle.chain.specs.Rule.{pick}
use Rattle.chain.specs.ChainPart.{latest_after, chain_from, chain_part}
use Rattle.planner.specs.declared.answers.Part.TheVariants as part
use Rattle.planner.specs.PairPart.{ByLower, pair_fates, pair_part, pair_count}
use Rattle.planner.specs.Plan.{plan_of, ceiling_of}
use Rattle.planner.specs.Ceiling.{MatchBound}
use Rattle.planner.proofs.PlanLaws.{plan_pair}
use Rattle.planner.proofs.MateLaws.{matching_size}
use Rattle.checker.specs.Check.{first_ground, number_verdict, number_verdicts, conflicting, pair_verdict, later_verdict, pair_verdicts}
use Rattle.checker.specs.Check.{table_answer, check_answer}
use Rattle.checker.proofs.DecisionLaws.{checker_decides}
use Rattle.cases.specs.Table.{PlansTo, Plans, line2, ends_t1, plan_t1, three_served, ends_t4, ends_t5, TableT5}
use Rattle.cases.proofs.Pairs.{pairing, single, pair_plans}
use Rattle.cases.proofs.Sizes.{matching_if, Computed, size, paired, counts_are, chain_is_plan, case_plans, writes}

-- T1: requests 0 and 1 share an end, and request 3 lies within request 2
computed_t1 : Computed 8 1 (requests_of ends_t1) plan_t1 (pairing 0 1 ∷ pairing 2 3 ∷ [])
unfolding chain_part order pick compatible crosses share_end inside xor
computed_t1 = record {
  chain = refl;
  matching = matching_if _ _ refl refl;
  bound =
      λ Q m. omega (arith, matching_size (requests_of ends_t1) Q m);
}

pub plans_t1 : Plans 8 1 ends_t1 (line2 2 2 2 part.Chain 3) plan_t1
unfolding served ring_verdict count_verdict list_verdict request_verdicts ends_verdict
plans_t1 =
    case_plans refl refl refl (λ P m l. record {
      counted = counts_are _ _ _ _ _ computed_t1 P m;
      written = writes _ (chain_is_plan _ _ _ _ _ computed_t1 P m (omega arith)) refl;
    })

pub feasible_t1 : Feasible 8 1 (requests_of ends_t1) three_served
unfolding served check_answer table_answer number_verdicts number_verdict pair_verdicts later_verdict pair_verdict conflicting first_ground
    call_verdict ring_verdict count_verdict list_verdict request_verdicts ends_verdict share_link some_link uses fate_of
feasible_t1 = (checker_decides 8 1 ends_t1 (1 ∷ 1 ∷ 2 ∷ 0 ∷ []) refl).passed_feasible 3 refl

pub exactly_t1 : (served three_served ≡ 3) × (3 * served plan_t1 ≡ 2 * served three_served)
unfolding served
exactly_t1 = (refl, refl)

abbrev ends_t2 : List ℕ
ends_t2 = 0 ∷ 2 ∷ 1 ∷ 3 ∷ 3 ∷ 5 ∷ 2 ∷ 6 ∷ []

-- T2: requests 0 and 3 share an end, and so do requests 1 and 2
computed_t2 : Computed 7 2 (requests_of ends_t2) (Served Plain 0 ∷ Served Plain 1 ∷ Served Plain 1 ∷ Served Plain 0 ∷ [])
    (pairing 0 3 ∷ pairing 1 2 ∷ [])
unfolding chain_part order pick compatible crosses share_end inside xor
computed_t2 = record {
  chain = refl;
  matching = matching_if _ _ refl refl;
  bound =
      λ Q m. omega (arith, matching_size (requests_of ends_t2) Q m);
}

pub plans_t2 : Plans 7 2 ends_t2 (line2 4 2 4 part.Chain 4) (Served Plain 0 ∷ Served Plain 1 ∷ Served Plain 1 ∷ Served Plain 0 ∷ [])
unfolding served ring_verdict count_verdict list_verdict request_verdicts ends_verdict
plans_t2 =
    case_plans refl refl refl (λ P m l. record {
      counted = counts_are _ _ _ _ _ computed_t2 P m;
      written = writes _ (chain_is_plan _ _ _ _ _ computed_t2 P m (omega arith)) refl;
    })

-- T3: the two requests are twins, whose ways have as many links
pub plans_t3 : Plans 4 1 (0 ∷ 2 ∷ 2 ∷ 0 ∷ []) (line2 1 1 2 part.Pair 2) (Served Plain 0 ∷ Served Seam 0 ∷ [])
unfolding chain_part order pick compatible crosses share_end xor served ring_verdict count_verdict list_verdict request_verdicts ends_verdict
    pair_part pair_fates first_way second_way twins shorter_way link_count inside share_link some_link uses
plans_t3 = pair_plans 4 0 2 2 0 refl refl refl refl refl refl

pub numbers_t3 : map fate_number (Served Plain 0 ∷ Served Seam 0 ∷ []) ≡ 1 ∷ 2 ∷ []
unfolding fate_number
numbers_t3 = refl

-- T4: the two requests cross, and no request is a pair with itself
crossing_t4 : (i j : ℕ) → i < 2 → j < 2 → compatible (request (requests_of ends_t4) i) (request (requests_of ends_t4) j) ≡ true → i ≡ j
unfolding compatible crosses share_end inside xor
crossing_t4 zero zero h k e = refl
crossing_t4 zero (suc zero) h k e = impossible (sym e)
crossing_t4 zero (suc (suc j)) h k e = absurd (omega arith)
crossing_t4 (suc zero) zero h k e = impossible (sym e)
crossing_t4 (suc zero) (suc zero) h k e = refl
crossing_t4 (suc zero) (suc (suc j)) h k e = absurd (omega arith)
crossing_t4 (suc (suc i)) j h k e = absurd (omega arith)

no_pair : MatchBound (requests_of ends_t4) 0
no_pair [] matching = omega arith
no_pair (p ∷ P) matching =
    let numbers = matching.numbers 0 (omega arith) in
    absurd (matching.once 0 1 (omega arith) (omega arith)
    (crossing_t4 p.first p.second numbers.0 numbers.1 (matching.compatibles 0 (omega arith))))

computed_t4 : Computed 4 1 (requests_of ends_t4) (Served Plain 0 ∷ Blocked ∷ []) []
unfolding chain_part order pick
computed_t4 = record { chain = refl; matching = matching_if _ _ refl refl; bound = no_pair }

pub plans_t4 : Plans 4 1 ends_t4 (line2 1 0 1 part.Chain 1) (Served Plain 0 ∷ Blocked ∷ [])
unfolding served ring_verdict count_verdict list_verdict request_verdicts ends_verdict
plans_t4 =
    case_plans refl refl refl (λ P m l. record {
      counted = counts_are _ _ _ _ _ computed_t4 P m;
      written = writes _ (chain_is_plan _ _ _ _ _ computed_t4 P m (omega arith)) refl;
    })

-- T5: three requests have one pair at most
computed_t5 : Computed 3 2 (requests_of ends_t5) (Served Plain 0 ∷ Served Plain 1 ∷ Blocked ∷ []) (pairing 0 1 ∷ [])
unfolding chain_part order pick compatible crosses share_end inside xor
computed_t5 = record {
  chain = refl;
  matching = matching_if _ _ refl refl;
  bound =
      λ Q m. omega (arith, matching_size (requests_of ends_t5) Q m);
}

-- the numbers, by the pair that is found
numbers_t5 : (i j : ℕ) → i < j → j < 3 → (before : List ℕ)
    → TableT5 before (map fate_number (pair_part 3 2 (requests_of ends_t5) (pairing i j ∷ [])) ++ drop 3 before)
unfolding pair_part pair_fates first_way second_way twins shorter_way link_count inside share_link some_link uses fate_number
numbers_t5 i zero h k before = absurd (omega arith)
numbers_t5 zero (suc zero) h k before = inl refl
numbers_t5 (suc i) (suc zero) h k before = absurd (omega arith)
numbers_t5 zero (suc (suc zero)) h k before = inr (inl refl)
numbers_t5 (suc zero) (suc (suc zero)) h k before = inr (inr refl)
numbers_t5 (suc (suc i)) (suc (suc zero)) h k before = absurd (omega arith)
numbers_t5 i (suc (suc (suc j))) h k before = absurd (omega arith)

written_t5 : (P : List Pair) → IsMaximum (requests_of ends_t5) P → ByLower P → (before : List ℕ)
    → TableT5 before (map fate_number (plan_of 3 2 (requests_of ends_t5) P) ++ drop 3 before)
unfolding served
written_t5 P maximum lower before =
    let one = size _ _ _ _ _ computed_t5 P maximum in
    let below = maximum.matching.numbers 0 (omega arith) in
    let found = numbers_t5 (pair P 0).first (pair P 0).second (lower.lower 0 (omega arith)) below.1 before in
    let more : served (chain_part 3 2 (requests_of ends_t5)) < served (pair_part 3 2 (requests_of ends_t5) P) =
    rw (computed_t5.chain, paired _ _ _ _ _ computed_t5 P maximum) (omega arith) in
    rw (plan_pair 3 2 (requests_of ends_t5) P more) (rw (← single P one) at found)

pub plans_t5 : PlansTo 3 2 ends_t5 (line2 2 1 3 part.Pair 3) TableT5
unfolding served ring_verdict count_verdict list_verdict request_verdicts ends_verdict
plans_t5 =
    case_plans refl refl refl
    (λ P m l. record { counted = counts_are _ _ _ _ _ computed_t5 P m; written = written_t5 P m l })

-- T6: whatever is taken, no request gets a fate
no_fates : (numbers latest : List ℕ) → chain_from [] numbers latest [] ≡ []
no_fates [] latest = refl
no_fates (i ∷ numbers) latest = no_fates numbers (latest_after [] i latest)

computed_t6 : (n w : ℕ) → Computed n w [] [] []
unfolding chain_part
computed_t6 n w = record {
  chain = no_fates (order n []) (replicate w 0);
  matching = matching_if _ _ refl refl;
  bound =
      λ Q m. omega (arith, matching_size [] Q m);
}

pub plans_t6 : (n w : ℕ) → 3 ≤ n → n ≤ 256 → 1 ≤ w → w ≤ 128 → Plans n w [] (line2 0 0 0 part.Chain 0) []
unfolding served count_verdict list_verdict request_verdicts
plans_t6 n w from to one most =
    let none : pair_count 0 w (min 0 w) ≡ 0 = omega arith in
    let top : ceiling_of 0 w 0 0 ≡ 0 = omega arith in
    case_plans (ring_allowed n w (record { nodes_from = from; nodes_to = to; colours_from = one; colours_to = most })) refl refl
    (λ P m l. record {
      counted = counts_are _ _ _ _ _ (computed_t6 n w) P m ∙ rw (none, top) refl;
      written = writes _ (chain_is_plan _ _ _ _ _ (computed_t6 n w) P m (omega arith)) refl;
    })

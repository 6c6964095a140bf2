-- Two requests that are a pair, of which the chain part serves one: the plan is the pair part, and follows from their ways.
use Prim.Native.Nat.{ℕ}
use mathlib.Core.Path.{◌≡◌, refl, ap, ◌∙◌}
use mathlib.Core.Bool.{true}
use mathlib.Core.List.{List, [], ◌∷◌}
use native.Mathlib.Omega.{arith}
use lib.ListN.{length}
use Rattle.ring.specs.declared.requests.Request.{Request}
use Rattle.ring.specs.declared.fates.Fate.{Fate}
use Rattle.ring.specs.declared.fates.Fate.TheVariants.{Blocked, Served}
use Rattle.ring.specs.declared.ways.Way.TheVariants.{Plain}
use Rattle.std.specs.Prelude.{Ok}
use Rattle.ring.specs.Requests.{request_of}
use Rattle.ring.specs.Plans.{served}
use Rattle.ring.specs.Chords.{compatible}
use Rattle.ring.specs.Matchings.{Pair, pair, IsMaximum}
use Rattle.ring.specs.Admission.{ring_verdict, list_verdict}
use Rattle.chain.specs.ChainPart.{chain_part}
use Rattle.planner.specs.declared.answers.Part.TheVariants as part
use Rattle.planner.specs.PairPart.{ByLower, pair_part}
use Rattle.planner.specs.Plan.{plan_of}
use Rattle.planner.proofs.PlanLaws.{plan_pair}
use Rattle.planner.proofs.MateLaws.{matching_size}
use Rattle.cases.specs.Table.{Plans, line2}
use Rattle.cases.proofs.Sizes.{matching_if, Computed, size, paired, counts_are, case_plans, writes}

abbrev pub pairing : ℕ → ℕ → Pair
pairing i j = record { first = i; second = j }

-- a matching of one pair
pub single : (P : List Pair) → length P ≡ 1 → P ≡ pairing (pair P 0).first (pair P 0).second ∷ []
single [] e = absurd (omega arith)
single (p ∷ []) e = refl
single (p ∷ q ∷ P) e = absurd (omega arith)

-- the list of two requests
abbrev two_requests : ℕ → ℕ → ℕ → ℕ → List Request
two_requests x y z t = request_of x y ∷ request_of z t ∷ []

module _ (n x y z t : ℕ) (chain : chain_part n 1 (two_requests x y z t) ≡ Served Plain 0 ∷ Blocked ∷ [])
    (fit : compatible (request_of x y) (request_of z t) ≡ true) where
  computed : Computed n 1 (two_requests x y z t) (Served Plain 0 ∷ Blocked ∷ []) (pairing 0 1 ∷ [])
  computed = record {
    chain = chain;
    matching = matching_if _ _ (rw fit refl) refl;
    bound = λ Q m. omega (arith, matching_size (two_requests x y z t) Q m);
  }

  -- the lower-numbered comes first
  only_pair : (P : List Pair) → IsMaximum (two_requests x y z t) P → ByLower P → P ≡ pairing 0 1 ∷ []
  only_pair P maximum lower =
      let one = size _ _ _ _ _ computed P maximum in
      let below = maximum.matching.numbers 0 (omega arith) in
      let first : (pair P 0).first ≡ 0 = omega (arith, lower.lower 0 (omega arith)) in
      let second : (pair P 0).second ≡ 1 = omega (arith, lower.lower 0 (omega arith)) in
      single P one ∙ rw (first, second)

  plan_is : (P : List Pair) → IsMaximum (two_requests x y z t) P → ByLower P
      → plan_of n 1 (two_requests x y z t) P ≡ pair_part n 1 (two_requests x y z t) (pairing 0 1 ∷ [])
  unfolding served
  plan_is P m l =
      plan_pair n 1 (two_requests x y z t) P (rw (chain, paired _ _ _ _ _ computed P m) (omega arith))
      ∙ ap (pair_part n 1 (two_requests x y z t)) (only_pair P m l)

  pub pair_plans : {fates : List Fate} → ring_verdict n 1 ≡ Ok tt → list_verdict n (x ∷ y ∷ z ∷ t ∷ []) ≡ Ok tt
      → pair_part n 1 (two_requests x y z t) (pairing 0 1 ∷ []) ≡ fates → 2 ≡ length fates
      → Plans n 1 (x ∷ y ∷ z ∷ t ∷ []) (line2 1 1 2 part.Pair 2) fates
  unfolding served
  pair_plans ring list fates two =
      case_plans ring list refl (λ P m l. record {
        counted = counts_are _ _ _ _ _ computed P m;
        written = writes _ (plan_is P m l ∙ fates) two;
      })

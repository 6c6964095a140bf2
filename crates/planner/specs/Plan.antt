-- The plan and its counts.
use Rattle.std.specs.Prelude.{Result, Ok, Err, ℕ, ◌+◌, min, Bool, true, false, List, [], ◌∷◌, ltb, length}
use Rattle.ring.specs.declared.requests.Request.{Request}
use Rattle.ring.specs.declared.fates.Fate.{Fate}
use Rattle.ring.specs.declared.refusals.Refusal.{Refusal}
use Rattle.ring.specs.Plans.{served}
use Rattle.ring.specs.Matchings.{Pair}
use Rattle.ring.specs.Answers.{InNumbers, gives, refuses}
use Rattle.chain.specs.ChainPart.{chain_part}
use Rattle.planner.specs.declared.answers.Part.{Part}
use Rattle.planner.specs.declared.answers.Part.TheVariants as part
use Rattle.planner.specs.declared.answers.Summary.{Summary}
use Rattle.planner.specs.PairPart.{pair_part}

-- the pair part, if it serves more
abbrev pub better : Bool → Part
better true = part.Pair
better false = part.Chain

-- "the part that serves more; on a tie, the chain part"
unfoldable pub part_used : ℕ → ℕ → List Request → List Pair → Part
part_used n w R P = better (ltb (served (chain_part n w R)) (served (pair_part n w R P)))

-- the plan of a part
abbrev pub plan_by : Part → ℕ → ℕ → List Request → List Pair → List Fate
plan_by part.Pair n w R P = pair_part n w R P
plan_by part.Chain n w R P = chain_part n w R

-- our plan, where the pair part follows from the matching P
unfoldable pub plan_of : ℕ → ℕ → List Request → List Pair → List Fate
plan_of n w R P = plan_by (part_used n w R P) n w R P

-- "the chain count plus the smaller of the match count and w, or m if that sum is above m"
abbrev pub ceiling_of : ℕ → ℕ → ℕ → ℕ → ℕ
ceiling_of m w chain matched = min (chain + min matched w) m

-- "line 2's counts, part and ceiling": what the chain part serves, the match count, what the pair part serves, and those two
unfoldable pub summary : ℕ → ℕ → List Request → List Pair → Summary
summary n w R P = record {
  chain = served (chain_part n w R);
  matched = length P;
  paired = served (pair_part n w R P);
  used = part_used n w R P;
  ceiling = ceiling_of (length R) w (served (chain_part n w R)) (length P);
}

-- 0 chain, 1 pair
abbrev pub part_number : Part → ℕ
part_number part.Chain = 0
part_number part.Pair = 1

-- the answer of plan in numbers: "line 2's counts, part and ceiling are given"
abbrev pub plan_in_numbers : Result Summary Refusal → InNumbers
plan_in_numbers (Ok s) = gives (s.chain ∷ s.matched ∷ s.paired ∷ part_number s.used ∷ s.ceiling ∷ [])
plan_in_numbers (Err r) = refuses r

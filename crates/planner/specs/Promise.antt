-- What plan promises.
use Rattle.std.specs.Prelude.{Result, Ok, Err, ℕ, ◌-◌, min, ◌≡◌, List, ◌++◌, map, length, take, drop}
use Rattle.ring.specs.declared.requests.Request.{Request}
use Rattle.ring.specs.declared.fates.Fate.{Fate}
use Rattle.ring.specs.declared.refusals.Refusal.{Refusal}
use Rattle.ring.specs.Requests.{requests_of}
use Rattle.ring.specs.Fates.{fate_number}
use Rattle.ring.specs.Plans.{served, fates_of, Feasible, KeepsOff}
use Rattle.ring.specs.Matchings.{Pair, IsMatching, IsMaximum}
use Rattle.ring.specs.Admission.{call_verdict}
use Rattle.chain.specs.ChainPart.{chain_part}
use Rattle.planner.specs.declared.answers.Summary.{Summary}
use Rattle.planner.specs.PairPart.{ByLower, pair_count}
use Rattle.planner.specs.Plan.{ceiling_of, plan_of, summary}
use Rattle.planner.specs.Ceiling.{ChainBound, MatchBound, Ceiling, TwoThirds}

-- "the first m table entries, read as fates, are our plan"
abbrev pub read_plan : List Request → List ℕ → List Fate
read_plan R table = fates_of (take (length R) table)

-- demand 3, of the table and of the counts in the same answer; `pairs` is the matching that was found
pub record Demand3 (n w : ℕ) (R : List Request) (table : List ℕ) (counts : Summary) (pairs : List Pair) : Type 0 where
  -- our plan is feasible, and no feasible plan serves more than three halves of what it serves
  pub feasible : Feasible n w R (read_plan R table)
  pub two_thirds : TwoThirds n w R (served (read_plan R table))
  -- the chain count is what the chain part serves, and no feasible plan that keeps off the seam serves more
  pub chain : counts.chain ≡ served (chain_part n w R)
  pub chain_feasible : Feasible n w R (chain_part n w R)
  pub chain_keeps_off : KeepsOff (n - 1) R (chain_part n w R)
  pub chain_most : ChainBound n w R counts.chain
  -- the match count is the size of a matching, and no matching is larger
  pub matched : counts.matched ≡ length pairs
  pub matching : IsMatching R pairs
  pub match_most : MatchBound R counts.matched
  -- "The pair count is 2k plus the smaller of w−k and m−2k", with k "the smaller of the match count and w"
  pub paired : counts.paired ≡ pair_count (length R) w (min counts.matched w)
  -- the ceiling is "the chain count plus the smaller of the match count and w, or m if that sum is above m"; no feasible plan serves more
  pub ceiling : counts.ceiling ≡ ceiling_of (length R) w counts.chain counts.matched
  pub ceiling_most : Ceiling n w R counts.ceiling

-- a plan is made. Which maximum matching is found is open: `pairs` is one, and all else follows from it
pub record PlanMade (n w : ℕ) (R : List Request) (before after : List ℕ) (result : Result Summary Refusal) : Type 0 where
  pub pairs : List Pair
  pub maximum : IsMaximum R pairs
  pub by_lower : ByLower pairs
  -- "line 2's counts, part and ceiling are given"
  pub counts : result ≡ Ok (summary n w R pairs)
  -- "Otherwise the first m entries alone are written"
  pub table : after ≡ map fate_number (plan_of n w R pairs) ++ drop (length R) before
  pub demand : Demand3 n w R after (summary n w R pairs) pairs

-- the promise of plan: the first ground of 1 to 6 and nothing changed, or a plan
pub record PlanPromise (n w : ℕ) (ends before after : List ℕ) (result : Result Summary Refusal) : Type 0 where
  pub refused : (ground : Refusal) → call_verdict n w ends (length before) ≡ Err ground
      → (result ≡ Err ground) × (after ≡ before)
  pub planned : call_verdict n w ends (length before) ≡ (Ok tt) → PlanMade n w (requests_of ends) before after result

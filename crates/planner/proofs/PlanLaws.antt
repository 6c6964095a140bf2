-- Demand 3 of the plan that a maximum matching gives, from what the chain part promises.
use Prim.Native.Nat.{ℕ, ◌≤◌, ◌<◌, max}
use mathlib.Core.Path.{◌≡◌, refl, ◌∙◌}
use mathlib.Core.List.{List, ◌++◌, map}
use native.Mathlib.Omega.{arith}
use lib.ListN.{length, length-map}
use lib.Seq.{take_at}
use borrow.Author.Tests.{lt-ltb, le-ltb}
use Rattle.ring.specs.declared.requests.Request.{Request}
use Rattle.ring.specs.Requests.{ValidRequests}
use Rattle.ring.specs.Fates.{fate_number}
use Rattle.ring.specs.Plans.{served, Feasible}
use Rattle.ring.specs.Matchings.{Pair, IsMaximum}
use Rattle.ring.proofs.Cases.{less, not_less, compare}
use Rattle.ring.proofs.FateLaws.{fates_of_numbers}
use Rattle.chain.specs.ChainPart.{chain_part}
use Rattle.chain.specs.Promises.{OptimalOffSeam}
use Rattle.planner.specs.PairPart.{coloured_pairs, pair_part, pair_count}
use Rattle.planner.specs.Plan.{part_used, plan_of, ceiling_of, summary}
use Rattle.planner.specs.Ceiling.{Ceiling}
use Rattle.planner.specs.Promise.{read_plan, Demand3}
use Rattle.planner.proofs.Bound.{ceiling, two_thirds_lem}
use Rattle.planner.proofs.FillLaws.{pair_part_feasible, pair_part_serves}

-- the pair part serves more
pub plan_pair : (n w : ℕ) (R : List Request) (P : List Pair) → served (chain_part n w R) < served (pair_part n w R P)
    → plan_of n w R P ≡ pair_part n w R P
unfolding plan_of part_used
plan_pair n w R P h = rw (lt-ltb (served (chain_part n w R)) (served (pair_part n w R P)) h)

-- it does not
pub plan_chain : (n w : ℕ) (R : List Request) (P : List Pair) → served (pair_part n w R P) ≤ served (chain_part n w R)
    → plan_of n w R P ≡ chain_part n w R
unfolding plan_of part_used
plan_chain n w R P h = rw (le-ltb (served (chain_part n w R)) (served (pair_part n w R P)) h)

module _ (n w : ℕ) (R : List Request) (valid : ValidRequests n R) (chain : OptimalOffSeam n w R (chain_part n w R)) (P : List Pair)
    (maximum : IsMaximum R P) where
  plan_feasible : Feasible n w R (plan_of n w R P)
  plan_feasible = elim (compare (served (chain_part n w R)) (served (pair_part n w R P))) [
    | less h e ↦ rw (plan_pair n w R P h) (pair_part_feasible n w R valid P maximum.matching)
    | not_less h e ↦ rw (plan_chain n w R P h) chain.feasible
  ]

  plan_serves : served (plan_of n w R P) ≡ max (served (chain_part n w R)) (pair_count (length R) w (coloured_pairs w P))
  plan_serves =
      let pairs = pair_part_serves n w R P maximum.matching in
      elim (compare (served (chain_part n w R)) (served (pair_part n w R P))) [
        | less h e ↦ rw (plan_pair n w R P h) (omega arith)
        | not_less h e ↦ rw (plan_chain n w R P h) (omega arith)
      ]

  -- the first m entries of the table read as the plan
  plan_read : (rest : List ℕ) → read_plan R (map fate_number (plan_of n w R P) ++ rest) ≡ plan_of n w R P
  plan_read rest =
      rw (take_at (map fate_number (plan_of n w R P)) rest (length R) (length-map (plan_of n w R P) fate_number ∙ plan_feasible.each))
      (fates_of_numbers (plan_of n w R P))

  plan_ceiling : Ceiling n w R (ceiling_of (length R) w (served (chain_part n w R)) (length P))
  plan_ceiling = ceiling n w R valid (served (chain_part n w R)) (length P) chain.most maximum.largest

  pub demand : (rest : List ℕ) → Demand3 n w R (map fate_number (plan_of n w R P) ++ rest) (summary n w R P) P
  unfolding summary
  demand rest = record {
    feasible = rw (plan_read rest) plan_feasible;
    two_thirds = rw (plan_read rest, plan_serves)
        (two_thirds_lem n w R (served (chain_part n w R)) (length P) _ plan_ceiling (omega arith) (omega arith));
    chain = refl;
    chain_feasible = chain.feasible;
    chain_keeps_off = chain.keeps_off;
    chain_most = chain.most;
    matched = refl;
    matching = maximum.matching;
    match_most = maximum.largest;
    paired = pair_part_serves n w R P maximum.matching;
    ceiling = refl;
    ceiling_most = plan_ceiling;
  }

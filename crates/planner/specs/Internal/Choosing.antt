-- What the choice between the two parts asks and leaves, once the chain part is in the table and a maximum matching is found.
use Rattle.std.specs.Prelude.{ℕ, ◌≡◌, List, ◌++◌, map, length, drop}
use Rattle.ring.specs.declared.requests.Request.{Request}
use Rattle.ring.specs.Requests.{requests_of}
use Rattle.ring.specs.Fates.{fate_number}
use Rattle.ring.specs.Plans.{served}
use Rattle.ring.specs.Matchings.{Pair}
use Rattle.chain.specs.ChainPart.{chain_part}
use Rattle.matching.specs.Maximum.{pairs_of}
use Rattle.planner.specs.declared.answers.Summary.{Summary}
use Rattle.planner.specs.Plan.{plan_of, summary}
use Rattle.planner.specs.Internal.Writing.{Writable}

-- the first m entries are the chain part's fate numbers, and the counts are those of the chain part and of the matching
pub record Choosable (n w : ℕ) (ends mates start : List ℕ) (count size : ℕ) : Type 0 where
  pub writable : Writable (requests_of ends) mates start
  pub table : start ≡ map fate_number (chain_part n w (requests_of ends)) ++ drop (length (requests_of ends)) start
  pub chain : count ≡ served (chain_part n w (requests_of ends))
  pub matched : size ≡ length (pairs_of (length (requests_of ends)) mates)

-- the first m entries are the plan's fate numbers, the others stay, and the counts and the part are the plan's
pub record Chosen (n w : ℕ) (R : List Request) (P : List Pair) (before after : List ℕ) (answer : Summary) : Type 0 where
  pub table : after ≡ map fate_number (plan_of n w R P) ++ drop (length R) before
  pub counts : answer ≡ summary n w R P

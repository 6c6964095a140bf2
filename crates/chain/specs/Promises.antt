-- What `colour` asks and promises, and what is promised of the chain part. The planner uses this and nothing else.
use Rattle.std.specs.Prelude.{ℕ, ◌-◌, ◌≤◌, ◌≡◌, List, ◌++◌, map, length, drop}
use Rattle.ring.specs.declared.requests.Request.{Request}
use Rattle.ring.specs.declared.fates.Fate.{Fate}
use Rattle.ring.specs.Requests.{ValidRequests}
use Rattle.ring.specs.Fates.{fate_number}
use Rattle.ring.specs.Plans.{served, Feasible, KeepsOff}
use Rattle.chain.specs.Order.{order, TakenInOrder}
use Rattle.chain.specs.ChainPart.{chain_part}

-- a ring and a list of requests within the limits, and a table with an entry for each request
pub record Colourable (n w : ℕ) (R : List Request) (table : List ℕ) : Type 0 where
  pub nodes : n ≤ 256
  pub colours : w ≤ 128
  pub valid : ValidRequests n R
  pub room : length R ≤ length table

-- the first m entries are the chain part's fate numbers, the others stay, and the answer is what it serves
pub record Coloured (n w : ℕ) (R : List Request) (before after : List ℕ) (answer : ℕ) : Type 0 where
  pub table : after ≡ map fate_number (chain_part n w R) ++ drop (length R) before
  pub count : answer ≡ served (chain_part n w R)

-- the chain part is feasible, keeps off the seam, and no feasible plan that keeps off the seam serves more
pub record OptimalOffSeam (n w : ℕ) (R : List Request) (F : List Fate) : Type 0 where
  pub feasible : Feasible n w R F
  pub keeps_off : KeepsOff (n - 1) R F
  pub most : (G : List Fate) → Feasible n w R G → KeepsOff (n - 1) R G → served G ≤ served F

-- the promise for every valid list of requests
abbrev pub ChainIsOptimal : Type 0
ChainIsOptimal = (n w : ℕ) (R : List Request) → ValidRequests n R → OptimalOffSeam n w R (chain_part n w R)

-- the promise that the order is the sentence's
abbrev pub OrderIsTaken : Type 0
OrderIsTaken = (n : ℕ) (R : List Request) → ValidRequests n R → TakenInOrder R (order n R)

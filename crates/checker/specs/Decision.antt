-- The checker decides whether a table holds a feasible plan, and its refusals name real faults.
use Rattle.std.specs.Prelude.{Result, Ok, Err, ℕ, ◌*◌, ◌≤◌, ◌<◌, ◌≡◌, true, List, length, get_or}
use Rattle.ring.specs.declared.ways.Way.{Way}
use Rattle.ring.specs.declared.requests.Request.{Request}
use Rattle.ring.specs.declared.fates.Fate.{Fate}
use Rattle.ring.specs.declared.fates.Fate.TheVariants.{Served}
use Rattle.ring.specs.declared.refusals.Refusal.{Refusal}
use Rattle.ring.specs.declared.refusals.Refusal.TheVariants.{FateNumber, Conflict}
use Rattle.ring.specs.Requests.{requests_of, request}
use Rattle.ring.specs.Ways.{uses}
use Rattle.ring.specs.Plans.{fate, fates_of, served, Feasible}
use Rattle.ring.specs.Admission.{call_verdict}
use Rattle.checker.specs.Check.{numbers_in, check_answer}

-- "7 a number above 2w, first such request"
pub record NumberFault (w : ℕ) (numbers : List ℕ) (i : ℕ) : Type 0 where
  pub listed : i < length numbers
  pub above : 2 * w < get_or numbers i 0
  pub first : (j : ℕ) → j < i → get_or numbers j 0 ≤ 2 * w

-- two requests, i before j, are served in one colour, and a link is used by both ways
pub record InConflict (n : ℕ) (R : List Request) (F : List Fate) (i j : ℕ) : Type 0 where
  pub before : i < j
  pub listed : j < length R
  pub colour : ℕ
  pub first_way : Way
  pub second_way : Way
  pub first_served : fate F i ≡ Served first_way colour
  pub second_served : fate F j ≡ Served second_way colour
  pub link : ℕ
  pub below : link < n
  pub first_uses : uses first_way (request R i) link ≡ true
  pub second_uses : uses second_way (request R j) link ≡ true

-- "8 two requests of one colour share a link", "the pair with the lowest first, then lowest second request", and no number is above 2w
pub record ConflictFault (n w : ℕ) (R : List Request) (numbers : List ℕ) (i j : ℕ) : Type 0 where
  pub numbers_within : (k : ℕ) → k < length numbers → get_or numbers k 0 ≤ 2 * w
  pub conflict : InConflict n R (fates_of numbers) i j
  pub lowest_first : (x y : ℕ) → x < i → InConflict n R (fates_of numbers) x y → ⊥
  pub lowest_second : (y : ℕ) → y < j → InConflict n R (fates_of numbers) i y → ⊥

-- the fault that a refusal names
pub data Fault (n w : ℕ) (R : List Request) (numbers : List ℕ) : Refusal → Type 0 where
  number : {i : ℕ} → NumberFault w numbers i → Fault n w R numbers (FateNumber i)
  conflict : {i j : ℕ} → ConflictFault n w R numbers i j → Fault n w R numbers (Conflict i j)

-- an answer passes exactly the feasible plans, with the number that they serve, and every refusal names its fault
pub record Decided (n w : ℕ) (R : List Request) (numbers : List ℕ) (answer : Result ℕ Refusal) : Type 0 where
  pub passed_feasible : (k : ℕ) → answer ≡ Ok k → Feasible n w R (fates_of numbers)
  pub passed_served : (k : ℕ) → answer ≡ Ok k → k ≡ served (fates_of numbers)
  pub feasible_passed : Feasible n w R (fates_of numbers) → answer ≡ Ok (served (fates_of numbers))
  pub refused_fault : (r : Refusal) → answer ≡ Err r → Fault n w R numbers r

-- the promise: so it is of every check without the grounds 1 to 6
abbrev pub CheckerDecides : Type 0
CheckerDecides = (n w : ℕ) (ends table : List ℕ) → call_verdict n w ends (length table) ≡ Ok tt
    → Decided n w (requests_of ends) (numbers_in ends table) (check_answer n w ends table)

-- The promises of the calls that plan and check: those of the operations, with the answer in numbers.
use Rattle.std.specs.Prelude.{ℕ, List, Result}
use Rattle.ring.specs.declared.refusals.Refusal.{Refusal}
use Rattle.planner.specs.declared.answers.Summary.{Summary}
use Rattle.planner.specs.Plan.{plan_in_numbers}
use Rattle.planner.specs.Promise.{PlanPromise}
use Rattle.outcomes.specs.Outcomes.{Answered}

-- plan: there is an answer that keeps plan's promise, and result and values are its numbers
pub record PlanCall (n w : ℕ) (ends before after values values-after : List ℕ) (result : ℕ) : Type 0 where
  pub answer : Result Summary Refusal
  pub promise : PlanPromise n w ends before after answer
  pub answered : Answered (plan_in_numbers answer) values values-after result

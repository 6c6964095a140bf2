-- What joins the planning program and the checking program.
use Rattle.std.specs.Prelude.{ℕ, ◌≡◌, List, Ok}
use Rattle.ring.specs.Requests.{requests_of}
use Rattle.ring.specs.Plans.{served}
use Rattle.planner.specs.declared.answers.Summary.{Summary}
use Rattle.planner.specs.Promise.{read_plan, PlanPromise}
use Rattle.checker.specs.Check.{numbers_in, check_answer}

-- every plan that plan gives passes the check: the first m entries of its table, with the number that they serve
abbrev pub PlansPass : Type 0
PlansPass = (n w : ℕ) (ends before after : List ℕ) (counts : Summary) → PlanPromise n w ends before after (Ok counts)
    → check_answer n w ends (numbers_in ends after) ≡ Ok (served (read_plan (requests_of ends) after))

-- What a call comes to, in numbers.
use Rattle.std.specs.Prelude.{ℕ, ◌+◌, ◌≡◌, cond, List, [], ◌∷◌, eqb, set, Result, Ok, Err}
use Rattle.ring.specs.declared.refusals.Refusal.{Refusal}
use Rattle.ring.specs.Answers.{InNumbers, gives, refuses}

-- values put from entry i on; a slice that is too short gets as many as fit
abbrev pub put_from : ℕ → List ℕ → List ℕ → List ℕ
put_from i [] values = values
put_from i (x ∷ xs) values = put_from (i + 1) xs (set values i x)

-- the promise of a call: its result is 0 or the refusal's number, and the lent values get what it gives or carries
pub record Answered (answer : InNumbers) (values values-after : List ℕ) (result : ℕ) : Type 0 where
  pub numbered : result ≡ answer.number
  pub filled : values-after ≡ put_from 0 answer.values values

-- an operation that gives values, or refuses
abbrev pub in_numbers : Result (List ℕ) Refusal → InNumbers
in_numbers (Ok values) = gives values
in_numbers (Err r) = refuses r

-- the answer of a change, and the lent buffer after it
pub record Outcome : Type 0 where
  pub answer : InNumbers
  pub buffer : List ℕ

-- what a change gave, and the buffer that it left
abbrev pub outcome_of : Result (List ℕ) Refusal → List ℕ → Outcome
outcome_of r buffer = record { answer = in_numbers r; buffer = buffer }

-- the promise of a change
pub record Changed (outcome : Outcome) (buffer-after values values-after : List ℕ) (result : ℕ) : Type 0 where
  pub answered : Answered outcome.answer values values-after result
  pub left : buffer-after ≡ outcome.buffer

-- what follows the success of a step, or what follows its refusal
abbrev pub on_success : {A : Type 0} → InNumbers → A → A → A
on_success answer next refusal = cond (eqb answer.number 0) next refusal

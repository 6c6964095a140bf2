-- What a charge comes to, in numbers: cents have 64 bits, and go to a number of their own that a caller lends.
use Rattle.std.specs.Prelude.{ℕ, ◌≡◌, Result, Ok, Err}
use Rattle.ring.specs.declared.refusals.Refusal.{Refusal}
use Rattle.charges.specs.Charges.{charge_in_numbers}

-- what the lent number holds after a charge: the cents, or what it held
abbrev pub cents_after : Result ℕ Refusal → ℕ → ℕ
cents_after (Ok paid) before = paid
cents_after (Err r) before = before

-- the promise of a charge: its result is 0 or the refusal's number, and the lent number gets the cents
pub record CentsGiven (answer : Result ℕ Refusal) (before after result : ℕ) : Type 0 where
  pub numbered : result ≡ (charge_in_numbers answer).number
  pub given : after ≡ cents_after answer before

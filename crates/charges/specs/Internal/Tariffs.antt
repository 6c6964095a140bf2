-- A tariff made from lengths and rates.
use Rattle.std.specs.Prelude.{ℕ, ◌≡◌, List}
use Rattle.charges.specs.declared.charges.Tariff.{Tariff}
use Rattle.charges.specs.Rates.{rates_in}
use Rattle.charges.specs.Internal.Distances.{AddedUp}

-- the distances are those of the lengths, and the rates are the three of the list
pub record IsTariff (lengths rates : List ℕ) (t : Tariff) : Type 0 where
  pub distances : AddedUp lengths t.distances.0
  pub prices : t.rates ≡ rates_in rates

-- The three rates, the bands of a way, and the cents for its metres.
use Rattle.std.specs.Prelude.{ℕ, ◌+◌, ◌*◌, ◌-◌, ◌/◌, min, not, ◌||◌, List, eqb, length, get_or}
use Rattle.ring.specs.declared.refusals.Refusal.TheVariants.{ChargeRates}
use Rattle.ring.specs.Refusals.{refuse_if, Verdict}
use Rattle.charges.specs.declared.rates.Rates.{Rates}
use Rattle.charges.specs.Lengths.{some_outside}

-- "three rates in cents per kilometre", as the list gives them
abbrev pub rates_in : List ℕ → Rates
rates_in rates = record { first = get_or rates 0 0; second = get_or rates 1 0; third = get_or rates 2 0 }

-- "30, a rate above 100,000"; any other number of rates than three is 30 too
unfoldable pub rates_verdict : List ℕ → Verdict
rates_verdict rates = refuse_if (not (eqb (length rates) 3) || some_outside 0 100000 rates) ChargeRates

-- of so many metres of a way, those "up to 50,000"
abbrev pub in_first : ℕ → ℕ
in_first m = min m 50000

-- those "from there to 200,000"
abbrev pub in_second : ℕ → ℕ
in_second m = min m 200000 - 50000

-- and those "beyond"
abbrev pub in_third : ℕ → ℕ
in_third m = m - 200000

-- "The sum over the bands"; a cent per kilometre is a thousandth of a cent for each metre, so the sum is in thousandths of a cent
unfoldable pub thousandths : Rates → ℕ → ℕ
thousandths rates m = rates.first * in_first m + rates.second * in_second m + rates.third * in_third m

-- "is rounded up to a whole cent, once"
unfoldable pub cents : Rates → ℕ → ℕ
cents rates m = (thousandths rates m + 999) / 1000

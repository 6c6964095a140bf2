-- What the grounds of a charge allow.
use Rattle.std.specs.Prelude.{Ok, Err}
use Prim.Native.Nat.{ℕ, ◌≤◌}
use mathlib.Core.Path.{◌≡◌, refl, sym, ◌∙◌, ap}
use mathlib.Core.Bool.{false, not}
use mathlib.Core.List.{List}
use native.Mathlib.Omega.{arith}
use borrow.Author.Tests.{eqb-true, not-false}
use lib.Dec.{eqb}
use lib.ListN.{length}
use Rattle.ring.specs.declared.refusals.Refusal.{Refusal}
use Rattle.ring.specs.declared.refusals.Refusal.TheVariants.{LinkLengths, ChargeRates}
use Rattle.ring.specs.Refusals.{Verdict}
use Rattle.ring.proofs.AdmissionLaws.{neither_refused, both_allowed}
use Rattle.ring.proofs.Cases.{impossible}
use Rattle.book.specs.declared.circuits.Circuit.{Circuit}
use Rattle.book.specs.declared.books.Book.{Book}
use Rattle.book.specs.Circuits.{desk}
use Rattle.book.specs.Books.{Valid}
use Rattle.book.specs.Orders.{shown_to}
use Rattle.book.proofs.Readings.{desk_reads}
use Rattle.charges.specs.Lengths.{some_outside, lengths_verdict}
use Rattle.charges.specs.Rates.{rates_verdict}
use Rattle.charges.specs.Charges.{tariff_verdict, charge_verdict, charge_unless, ChargePromise}

-- lengths and rates that are allowed
pub record TariffLimits (n : ℕ) (lengths rates : List ℕ) : Type 0 where
  pub links : length lengths ≡ n
  pub within : some_outside 1 1000000 lengths ≡ false
  pub three : length rates ≡ 3
  pub low : some_outside 0 100000 rates ≡ false

pub tariff_allowed : (n : ℕ) (lengths rates : List ℕ) → tariff_verdict n lengths rates ≡ Ok tt → TariffLimits n lengths rates
unfolding lengths_verdict rates_verdict
tariff_allowed n lengths rates e =
    let both = both_allowed (lengths_verdict n lengths) (rates_verdict rates) e in
    let links = neither_refused (not (eqb (length lengths) n)) (some_outside 1 1000000 lengths) LinkLengths both.0 in
    let prices = neither_refused (not (eqb (length rates) 3)) (some_outside 0 100000 rates) ChargeRates both.1 in
    record {
      links = eqb-true (length lengths) n (not-false _ links.0);
      within = links.1;
      three = eqb-true (length rates) 3 (not-false _ prices.0);
      low = prices.1;
    }

-- the verdict on the charge of an order, from what show answers and from the tariff's grounds
module _ (b : Book) (serial : ℕ) (lengths rates : List ℕ) where
  pub order_refused : {r : Refusal} → Err r ≡ shown_to desk b serial → charge_verdict b serial lengths rates ≡ Err r
  unfolding charge_verdict
  order_refused e = rw (sym (e ∙ (desk_reads b).orders serial)) refl

  pub tariff_told : (c : Circuit) {v : Verdict} → Ok c ≡ shown_to desk b serial → v ≡ tariff_verdict b.n lengths rates
      → charge_verdict b serial lengths rates ≡ v
  unfolding charge_verdict
  tariff_told c e f = rw (sym (e ∙ (desk_reads b).orders serial)) (sym f)

-- the promise, from the grounds
module _ (b : Book) (paid : ℕ) {grounds : Verdict} where
  pub promise_refused : {r : Refusal} → grounds ≡ Err r → ChargePromise b grounds (charge_unless grounds paid) (Err r)
  promise_refused {r} f = record {
    refused = λ q g. let same : ◌≡◌ {A = Verdict} (Err r) (Err q) = sym f ∙ g in cc;
    valid = λ u. ap (λ (x : Verdict). charge_unless x paid) (sym f);
  }

  pub promise_charged : {given : ℕ} → grounds ≡ Ok tt → (Valid b → given ≡ paid)
      → ChargePromise b grounds (charge_unless grounds paid) (Ok given)
  promise_charged f h = record {
    refused = λ q g. let never : ◌≡◌ {A = Verdict} (Ok tt) (Err q) = sym f ∙ g in impossible (cc);
    valid = λ u. ap Ok (h u) ∙ ap (λ (x : Verdict). charge_unless x paid) (sym f);
  }

-- lengths that are allowed are those of a ring of at most 256 nodes
pub tariff_few : (b : Book) (lengths rates : List ℕ) → TariffLimits b.n lengths rates → Valid b → length lengths ≤ 256
tariff_few b lengths rates t v =
    let links = t.links in
    let few = v.nodes.1 in
    omega arith

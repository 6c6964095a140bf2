use Rattle.std.proofs.Common.{rules, ◌≡◌, Ok, sym, ◌∙◌}
use Rattle.std.proofs.lemmas.Result.{err_from_is_err_and}
use Rattle.book.specs.Circuits.{desk}
use Rattle.book.specs.Orders.{shown, shown_to}
use Rattle.book.proofs.Readings.{desk_reads}
use Rattle.charges.specs.Charges.{shown_charge, charged}
use Rattle.charges.proofs.DistanceLaws.{charge_by_lem}
use Rattle.charges.proofs.ChargeLaws.{order_refused, tariff_told, tariff_allowed, promise_refused, promise_charged, tariff_few}
use Rattle.charges.proofs.charges.charge.Goals as goal

pub returns-in_err-circuit : goal.returns-in_err-circuit
unfolding charged
returns-in_err-circuit c =
    let s = c.args in
    let p = err_from_is_err_and c.from_residual.result c.from_residual.ensures.1 in
    rw (p.1, p.2) (promise_refused s.book.now (shown_charge s.lengths.now s.rates.now (shown s.book.now s.serial))
    (order_refused s.book.now s.serial s.lengths.now s.rates.now (search rules)))

pub returns-in_err-tariff : goal.returns-in_err-tariff
unfolding charged
returns-in_err-tariff c =
    let s = c.args in
    let p = err_from_is_err_and c.from_residual-in_err-tariff.result c.from_residual-in_err-tariff.ensures.1 in
    rw (p.1, p.2) (promise_refused s.book.now (shown_charge s.lengths.now s.rates.now (shown s.book.now s.serial))
    (tariff_told s.book.now s.serial s.lengths.now s.rates.now c.in_ok-circuit.circuit (search rules) c.in_err-tariff.ensures.ground))

pub returns : goal.returns
unfolding charged
returns c =
    let s = c.args in
    let b = s.book.now in
    let shows : Ok c.in_ok-circuit.circuit ≡ shown_to desk b s.serial = search rules in
    let told = tariff_told b s.serial s.lengths.now s.rates.now c.in_ok-circuit.circuit shows c.in_ok-tariff.ensures.ground in
    let allowed = tariff_allowed b.n s.lengths.now s.rates.now (sym c.in_ok-tariff.ensures.ground) in
    let read = sym (shows ∙ (desk_reads b).orders s.serial) in
    let tariff = c.in_ok-tariff.tariff in
    promise_charged b (shown_charge s.lengths.now s.rates.now (shown b s.serial)) told
    (λ v. c.charge.ensures.exact
    ∙ rw (c.in_ok-tariff.ensures.given.prices, read)
    (charge_by_lem s.lengths.now tariff.distances.0 c.in_ok-tariff.ensures.given.distances (tariff_few b s.lengths.now s.rates.now allowed v)
    s.rates.now c.in_ok-circuit.circuit))

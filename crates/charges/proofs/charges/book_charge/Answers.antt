use Rattle.std.proofs.Common.{sym, ◌∙◌}
use Rattle.std.proofs.lemmas.Result.{err_from_is_err_and}
use Rattle.book.specs.Books.{live_of}
use Rattle.charges.specs.Charges.{charges_of, book_charged}
use Rattle.charges.proofs.DistanceLaws.{charges_by_lem}
use Rattle.charges.proofs.ChargeLaws.{tariff_allowed, promise_refused, promise_charged, tariff_few}
use Rattle.charges.proofs.charges.book_charge.Goals as goal

pub returns-in_err-tariff : goal.returns-in_err-tariff
unfolding book_charged
returns-in_err-tariff c =
    let s = c.args in
    let p = err_from_is_err_and c.from_residual.result c.from_residual.ensures.1 in
    rw (p.1, p.2) (promise_refused s.book.now (charges_of s.lengths.now s.rates.now (live_of s.book.now)) (sym c.in_err-tariff.ensures.ground))

pub returns : goal.returns
unfolding book_charged
returns c =
    let s = c.args in
    let b = s.book.now in
    let allowed = tariff_allowed b.n s.lengths.now s.rates.now (sym c.in_ok-tariff.ensures.ground) in
    let tariff = c.in_ok-tariff.tariff in
    promise_charged b (charges_of s.lengths.now s.rates.now (live_of b)) (sym c.in_ok-tariff.ensures.ground)
    (λ v. c.charges.ensures
    ∙ rw c.in_ok-tariff.ensures.given.prices
    (charges_by_lem s.lengths.now tariff.distances.0 c.in_ok-tariff.ensures.given.distances
    (tariff_few b s.lengths.now s.rates.now allowed v) s.rates.now (live_of b)))

-- What those who pay rely on, proved.
use Rattle.std.specs.Prelude.{Result, Ok, Err}
use Prim.Native.Nat.{ℕ, suc, ◌*◌, ◌≤◌, ◌<◌}
use mathlib.Core.Path.{◌≡◌, refl, subst}
use mathlib.Core.List.{List, [], ◌∷◌}
use native.Mathlib.Omega.{arith}
use lib.ListN.{length}
use Rattle.ring.specs.declared.refusals.Refusal.{Refusal}
use Rattle.ring.specs.Refusals.{or_else, Verdict}
use Rattle.ring.proofs.Cases.{impossible}
use Rattle.book.specs.declared.circuits.Circuit.{Circuit}
use Rattle.book.specs.declared.books.Book.{Book}
use Rattle.book.specs.Circuits.{ends_of, circuit}
use Rattle.book.specs.Books.{records_of, live_of, Valid}
use Rattle.book.specs.Orders.{shown}
use Rattle.book.proofs.LiveOrders.{live_all, live_shown, shown_at}
use Rattle.book.proofs.RevisionLaws.{live_few}
use Rattle.charges.specs.Lengths.{metres}
use Rattle.charges.specs.Rates.{rates_in}
use Rattle.charges.specs.Charges.{circuit_charge, charges_of, order_verdict, tariff_verdict, charge_verdict, charge_unless, shown_charge}
use Rattle.charges.specs.Charges.{charged, book_charged}
use Rattle.charges.specs.Promises.{LongerNeverCheaper, OrdersPay, GreatestCharge}
use Rattle.charges.proofs.LengthLaws.{none_above, way_most, longer_metres}
use Rattle.charges.proofs.RateLaws.{cents_rise, cents_most}
use Rattle.charges.proofs.ChargeLaws.{TariffLimits, tariff_allowed}

pub longer_never_cheaper : LongerNeverCheaper
unfolding circuit_charge
longer_never_cheaper lengths longer rates c e h =
    cents_rise (rates_in rates) _ _ (longer_metres c.way (ends_of c) lengths longer e h)

pub orders_pay : OrdersPay
unfolding charged charge_verdict
orders_pay b v lengths rates e i h = rw (live_shown b v i h, e) refl

-- a circuit of a valid book leaves a link of its ring out
module _ (b : Book) (v : Valid b) (lengths rates : List ℕ) (t : TariffLimits b.n lengths rates) where
  abbrev Ends : Circuit → Type 0
  Ends c = (c.a < c.b) × (c.b < b.n)

  circuit_most : (c : Circuit) → Ends c → circuit_charge lengths rates c ≤ 25500000000
  unfolding circuit_charge
  circuit_most c ends =
      let links = t.links in
      let few = v.nodes.1 in
      let way = way_most c.way (ends_of c) lengths ends.0 (omega arith) (none_above 1 1000000 lengths t.within) in
      let low = none_above 0 100000 rates t.low in
      let paid = cents_most (rates_in rates) (metres c.way (ends_of c) lengths) (low 0) (low 1) (low 2) in
      omega arith

  charges_most : (cs : List Circuit) → ((i : ℕ) → i < length cs → Ends (circuit cs i))
      → charges_of lengths rates cs ≤ length cs * 25500000000
  charges_most [] h = omega arith
  charges_most (c ∷ cs) h =
      let first = circuit_most c (h 0 (omega arith)) in
      let rest = charges_most cs (λ i k. h (suc i) (omega arith)) in
      omega arith

pub greatest_charge : GreatestCharge
unfolding charged charge_verdict book_charged
greatest_charge = record {
  order = λ b v serial lengths rates paid e.
      one b v lengths rates serial paid (shown b serial) refl (tariff_verdict b.n lengths rates) refl e;
  book = λ b v lengths rates paid e. all b v lengths rates paid (tariff_verdict b.n lengths rates) refl e;
}
  where
    one : (b : Book) (v : Valid b) (lengths rates : List ℕ) (serial paid : ℕ) (s : Result Circuit Refusal) → shown b serial ≡ s → (t : Verdict)
        → tariff_verdict b.n lengths rates ≡ t
        → charge_unless (or_else (order_verdict s) t) (shown_charge lengths rates s) ≡ Ok paid → paid ≤ 25500000000
    one b v lengths rates serial paid (Ok c) p (Ok tt) q e =
        let same : circuit_charge lengths rates c ≡ paid = cc in
        let at = shown_at b serial c p in
        let ends = subst (λ (d : Circuit). (d.a < d.b) × (d.b < b.n)) at.there (v.circuits.ends at.place at.below) in
        let most = circuit_most b v lengths rates (tariff_allowed b.n lengths rates q) c ends in
        omega arith
    one b v lengths rates serial paid (Ok c) p (Err r) q e = impossible (cc)
    one b v lengths rates serial paid (Err r) p t q e = impossible (cc)

    all : (b : Book) (v : Valid b) (lengths rates : List ℕ) (paid : ℕ) (t : Verdict) → tariff_verdict b.n lengths rates ≡ t
        → charge_unless t (charges_of lengths rates (live_of b)) ≡ Ok paid → paid ≤ 512 * 25500000000
    all b v lengths rates paid (Ok tt) q e =
        let same : charges_of lengths rates (live_of b) ≡ paid = cc in
        let ends = live_all (λ d. (d.a < d.b) × (d.b < b.n)) (records_of b) v.circuits.ends in
        let most = charges_most b v lengths rates (tariff_allowed b.n lengths rates q) (live_of b) ends in
        let few = live_few (records_of b) in
        let room = v.circuits.room in
        omega arith
    all b v lengths rates paid (Err r) q e = impossible (cc)

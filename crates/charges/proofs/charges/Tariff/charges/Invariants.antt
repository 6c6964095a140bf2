-- The loop's invariant: what the circuits below i pay, and what those from i on pay, is what all pay.
use Rattle.std.proofs.Common.{◌≡◌, ◌+◌, ◌*◌, ◌≤◌, drop}
use Rattle.book.specs.Books.{records_of, live_in, live_of}
use Rattle.charges.specs.Internal.Distances.{charges_by}
use Rattle.charges.proofs.charges.Tariff.charges.Given as goal

abbrev pub invariant-loop-i : goal.invariant-loop-i
invariant-loop-i l =
    (l.paid ≤ 20000000000000000 * l.i)
    × (l.paid + charges_by l.self.rates l.self.distances.0 (live_in (drop l.i (records_of l.book)))
    ≡ charges_by l.self.rates l.self.distances.0 (live_of l.book))

-- The cases of charges, computed from the definitions.
use mathlib.Core.Path.{refl}
use Rattle.ring.specs.Ways.{uses, some_link}
use Rattle.ring.specs.Admission.{ring_verdict, ends_verdict}
use Rattle.book.specs.Circuits.{some_circuit, holds}
use Rattle.book.specs.Books.{opened}
use Rattle.book.specs.Crews.{crew_verdict}
use Rattle.book.specs.Grants.{held_in, held_on_way, colour_held, argument_verdict, room_verdict, grant_verdict, granted}
use Rattle.book.specs.Orders.{never_given, lookup_in, lookup, missing, shown}
use Rattle.book.specs.Removals.{removed}
use Rattle.charges.specs.Lengths.{metres, lengths_verdict}
use Rattle.charges.specs.Rates.{rates_verdict, thousandths, cents}
use Rattle.charges.specs.Charges.{circuit_charge, charge_verdict, charged, book_charged}
use Rattle.cases.specs.Charges.{ChargeCase, GreatestCase}

pub charge_case : ChargeCase
unfolding opened ring_verdict ends_verdict granted grant_verdict argument_verdict room_verdict crew_verdict colour_held held_on_way held_in
    some_circuit holds uses some_link removed lookup lookup_in never_given missing shown metres lengths_verdict rates_verdict thousandths cents
    circuit_charge charge_verdict charged book_charged
charge_case = record {
  example = refl;
  begun = refl;
  first_edge = refl;
  first_past = refl;
  second_edge = refl;
  second_past = refl;
  seam = refl;
  both = refl;
  pending_free = refl;
  removed = refl;
  was_never_given = refl;
  few_lengths = refl;
  length_off_way = refl;
  high_rate = refl;
  few_rates = refl;
  link_lengths = refl;
  charge_rates = refl;
}

pub greatest_case : GreatestCase
unfolding opened ring_verdict ends_verdict granted grant_verdict argument_verdict room_verdict crew_verdict colour_held held_on_way held_in
    some_circuit holds uses some_link lookup lookup_in never_given missing shown metres lengths_verdict rates_verdict thousandths cents
    circuit_charge charge_verdict charged
greatest_case = refl

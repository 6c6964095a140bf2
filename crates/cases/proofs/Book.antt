-- Cases T7 to T9 and the case of crews, computed from the definitions.
use mathlib.Core.Path.{refl}
use Rattle.ring.specs.Ways.{uses, some_link}
use Rattle.ring.specs.Admission.{ring_verdict, ends_verdict}
use Rattle.book.specs.Circuits.{some_circuit, holds}
use Rattle.book.specs.Books.{opened}
use Rattle.book.specs.Crews.{crew_verdict}
use Rattle.book.specs.Grants.{held_in, held_on_way, colour_held, argument_verdict, room_verdict, grant_verdict, granted}
use Rattle.book.specs.Orders.{never_given, lookup_in, lookup, missing, shown, own_shown, shown_to}
use Rattle.book.specs.Removals.{removed}
use Rattle.book.specs.Confirmations.{absent, confirmed}
use Rattle.book.specs.Holders.{holder_in, holder_verdict, held_for}
use Rattle.stored.specs.Blocks.{check_of}
use Rattle.stored.specs.Forms.{later_blocks}
use Rattle.cases.specs.Table.{T7, T8, T9}
use Rattle.cases.specs.Crews.{CrewCase}

pub t7 : T7
unfolding opened ring_verdict ends_verdict granted grant_verdict argument_verdict room_verdict colour_held held_on_way held_in some_circuit holds uses
    some_link removed confirmed lookup lookup_in missing absent never_given shown shown_to crew_verdict
t7 = record { answers = refl; unconfirmed = refl; colour_is_held = refl; was_never_given = refl; gone = refl }

pub t8 : T8
unfolding check_of
t8 = record { check = refl }

pub t9 : T9
unfolding later_blocks
t9 = record { none = refl; one = refl; block = refl; more = refl; all = refl }

pub crew_case : CrewCase
unfolding opened ring_verdict ends_verdict granted grant_verdict argument_verdict room_verdict crew_verdict colour_held held_on_way held_in
    some_circuit holds uses some_link lookup lookup_in never_given shown own_shown shown_to holder_in holder_verdict held_for
crew_case = record { answers = refl; no_crew = refl; was_never_given = refl; crew_number = refl }

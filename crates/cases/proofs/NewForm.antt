-- The cases of the new stored form, computed from the definitions.
use mathlib.Core.Path.{refl}
use Rattle.ring.specs.Fates.{fate_number}
use Rattle.ring.specs.Ways.{uses, some_link}
use Rattle.ring.specs.Admission.{ring_verdict, ends_verdict}
use Rattle.book.specs.Circuits.{some_circuit, holds}
use Rattle.book.specs.Books.{opened}
use Rattle.book.specs.Crews.{crew_verdict}
use Rattle.book.specs.Grants.{held_in, held_on_way, colour_held, argument_verdict, room_verdict, grant_verdict, granted}
use Rattle.book.specs.Orders.{never_given, lookup_in, lookup, missing}
use Rattle.book.specs.Removals.{removed}
use Rattle.book.specs.Confirmations.{absent, confirmed}
use Rattle.book.specs.Revisions.{revision}
use Rattle.stored.specs.Forms.{later_blocks}
use Rattle.cases.specs.NewForm.{NewLengths, RecordCase, RevisionCase}

pub new_lengths : NewLengths
unfolding later_blocks
new_lengths = record { none = refl; one = refl; block = refl; more = refl; all = refl }

pub record_case : RecordCase
unfolding fate_number
record_case = record { new = refl; old = refl }

pub revision_case : RevisionCase
unfolding opened ring_verdict ends_verdict granted grant_verdict argument_verdict room_verdict colour_held held_on_way held_in some_circuit holds uses
    some_link removed confirmed lookup lookup_in missing absent never_given crew_verdict revision
revision_case =
    record { opening = refl; granted = refl; removed = refl; confirmed = refl; marked_conversion = refl; revision_low = refl }

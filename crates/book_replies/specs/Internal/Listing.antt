-- Which records are listed: the live ones, or the pending ones.
use Rattle.std.specs.Prelude.{Bool, not, List, filter}
use Rattle.book.specs.declared.circuits.RecordState.{RecordState}
use Rattle.book.specs.declared.circuits.RecordState.TheVariants.{Live, Pending}
use Rattle.book.specs.declared.circuits.Circuit.{Circuit}
use Rattle.book.specs.Circuits.{is_live}

-- a record is in this state
abbrev pub is_listed : RecordState → Circuit → Bool
is_listed Live c = is_live c
is_listed Pending c = not (is_live c)

-- those of some records that are
abbrev pub listed : RecordState → List Circuit → List Circuit
listed state cs = filter (is_listed state) cs

-- Circuits, their states and crews, and the colours that they hold on links.
use Rattle.std.specs.Prelude.{ℕ, Bool, true, false, not, ◌&&◌, ◌||◌, List, eqb, get_or}
use Rattle.std.specs.List.{list_any}
use Rattle.ring.specs.declared.requests.Request.{Request}
use Rattle.ring.specs.declared.ways.Way.TheVariants.{Plain}
use Rattle.ring.specs.Ways.{uses}
use Rattle.book.specs.declared.circuits.RecordState.{RecordState}
use Rattle.book.specs.declared.circuits.RecordState.TheVariants.{Live, Pending}
use Rattle.book.specs.declared.circuits.Circuit.{Circuit}

-- the record of a place that holds no circuit
abbrev pub vacant : Circuit
vacant = record { serial = 0; a = 0; b = 0; way = Plain; colour = 0; crew = 0; state = Live }

-- a state is that of a live circuit, or "pending": removed, and its pull not confirmed
abbrev pub live_state : RecordState → Bool
live_state Live = true
live_state Pending = false

-- the circuit is live
abbrev pub is_live : Circuit → Bool
is_live c = live_state c.state

-- the same circuit in another state
abbrev pub in_state : RecordState → Circuit → Circuit
in_state state c =
    record { serial = c.serial; a = c.a; b = c.b; way = c.way; colour = c.colour; crew = c.crew; state = state }

-- "A removal .. leaves the record pending"
abbrev pub as_pending : Circuit → Circuit
as_pending c = in_state Pending c

-- the number of the crew that is "the desk"
abbrev pub desk : ℕ
desk = 0

-- "a pending record", or "a record whose crew is not 0"
abbrev pub is_marked : Circuit → Bool
is_marked c = not (is_live c) || not (eqb c.crew desk)

-- circuit i of a list; a number past the list has no meaning, and gets the vacant record
abbrev pub circuit : List Circuit → ℕ → Circuit
circuit cs i = get_or cs i vacant

-- some circuit of a list has the property
unfoldable pub some_circuit : List Circuit → (Circuit → Bool) → Bool
some_circuit cs p = list_any p cs

-- the two ends of a circuit
abbrev pub ends_of : Circuit → Request
ends_of c = record { a = c.a; b = c.b }

-- the circuit is of that colour, and its way uses the link
unfoldable pub holds : Circuit → ℕ → ℕ → Bool
holds c link colour = eqb c.colour colour && uses c.way (ends_of c) link

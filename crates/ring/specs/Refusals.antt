-- Refusals: the number of each, the values that it carries, and the order in which they are tested.
use Rattle.std.specs.Prelude.{ℕ, Bool, true, false, Result, Ok, Err, ⊤}
use Rattle.ring.specs.declared.refusals.Refusal.{Refusal}
use Rattle.ring.specs.declared.refusals.Refusal.TheVariants.{NodeCount, ColourCount, RequestCount, RequestEnd, RequestEndsEqual}
use Rattle.ring.specs.declared.refusals.Refusal.TheVariants.{TableShort, FateNumber, Conflict, CircuitEnd, CircuitEndsEqual}
use Rattle.ring.specs.declared.refusals.Refusal.TheVariants.{WayNumber, ColourNumber, ColourHeld, BookFull, SerialsUsedUp}
use Rattle.ring.specs.declared.refusals.Refusal.TheVariants.{SerialNeverGiven, SerialRemoved, LinkNumber, BufferShort, StoredLength}
use Rattle.ring.specs.declared.refusals.Refusal.TheVariants.{BlockCheck, StoredForm, TextForm, LineCount, SerialLive}
use Rattle.ring.specs.declared.refusals.Refusal.TheVariants.{SerialConfirmed, MarkedRecord, CrewNumber, MarkedConversion}
use Rattle.ring.specs.declared.refusals.Refusal.TheVariants.{RevisionLow, LinkLengths, ChargeRates}
use Rattle.ring.specs.declared.refusals.Carried.{Carried}
use Rattle.ring.specs.declared.refusals.Carried.TheVariants.{None, One, Two}

-- the number of each ground; 4 and 5 stand for a request of a list, and for a grant
abbrev pub number_of : Refusal → ℕ
number_of NodeCount = 1
number_of ColourCount = 2
number_of RequestCount = 3
number_of (RequestEnd i) = 4
number_of (RequestEndsEqual i) = 5
number_of TableShort = 6
number_of (FateNumber i) = 7
number_of (Conflict i j) = 8
number_of CircuitEnd = 4
number_of CircuitEndsEqual = 5
number_of WayNumber = 9
number_of ColourNumber = 10
number_of ColourHeld = 11
number_of BookFull = 12
number_of SerialsUsedUp = 13
number_of SerialNeverGiven = 14
number_of SerialRemoved = 15
number_of LinkNumber = 16
number_of BufferShort = 17
number_of StoredLength = 18
number_of BlockCheck = 19
number_of StoredForm = 20
number_of TextForm = 21
number_of LineCount = 22
number_of SerialLive = 23
number_of SerialConfirmed = 24
number_of MarkedRecord = 25
number_of CrewNumber = 26
number_of MarkedConversion = 27
number_of RevisionLow = 28
number_of LinkLengths = 29
number_of ChargeRates = 30

-- "In plan and check, 4, 5 and 7 carry the request number, 8 both, the others none."
abbrev pub carried_by : Refusal → Carried
carried_by NodeCount = None
carried_by ColourCount = None
carried_by RequestCount = None
carried_by (RequestEnd i) = One i
carried_by (RequestEndsEqual i) = One i
carried_by TableShort = None
carried_by (FateNumber i) = One i
carried_by (Conflict i j) = Two i j
carried_by CircuitEnd = None
carried_by CircuitEndsEqual = None
carried_by WayNumber = None
carried_by ColourNumber = None
carried_by ColourHeld = None
carried_by BookFull = None
carried_by SerialsUsedUp = None
carried_by SerialNeverGiven = None
carried_by SerialRemoved = None
carried_by LinkNumber = None
carried_by BufferShort = None
carried_by StoredLength = None
carried_by BlockCheck = None
carried_by StoredForm = None
carried_by TextForm = None
carried_by LineCount = None
carried_by SerialLive = None
carried_by SerialConfirmed = None
carried_by MarkedRecord = None
carried_by CrewNumber = None
carried_by MarkedConversion = None
carried_by RevisionLow = None
carried_by LinkLengths = None
carried_by ChargeRates = None

-- whether a ground is there: the first one in the order of the rules, or none
abbrev pub Verdict : Type 0
Verdict = Result ⊤ Refusal

-- a ground, if its test holds
abbrev pub refuse_if : Bool → Refusal → Verdict
refuse_if true r = Err r
refuse_if false r = Ok tt

-- the first ground of two, "tested in the order written"
abbrev pub or_else : Verdict → Verdict → Verdict
or_else (Err r) later = Err r
or_else (Ok tt) later = later

-- Each ground in words: one table from refusal to text.
use Rattle.std.specs.Prelude.{ℕ, List, ◌++◌}
use Rattle.ring.specs.declared.refusals.Refusal.{Refusal}
use Rattle.ring.specs.declared.refusals.Refusal.TheVariants.{NodeCount, ColourCount, RequestCount, RequestEnd, RequestEndsEqual}
use Rattle.ring.specs.declared.refusals.Refusal.TheVariants.{TableShort, FateNumber, Conflict, CircuitEnd, CircuitEndsEqual, WayNumber}
use Rattle.ring.specs.declared.refusals.Refusal.TheVariants.{ColourNumber, ColourHeld, BookFull, SerialsUsedUp, SerialNeverGiven}
use Rattle.ring.specs.declared.refusals.Refusal.TheVariants.{SerialRemoved, LinkNumber, BufferShort, StoredLength, BlockCheck, StoredForm}
use Rattle.ring.specs.declared.refusals.Refusal.TheVariants.{TextForm, LineCount, SerialLive, SerialConfirmed, MarkedRecord, CrewNumber}
use Rattle.ring.specs.declared.refusals.Refusal.TheVariants.{MarkedConversion, RevisionLow, LinkLengths, ChargeRates}
use Rattle.texts.specs.Bytes.{bytes}

-- the ground's words, to the end of the line
abbrev pub ground_of : Refusal → List ℕ
ground_of NodeCount = bytes "n not 3 to 256\n"
ground_of ColourCount = bytes "w not 1 to 128\n"
ground_of RequestCount = bytes "more than 512 requests, or an odd number of ends\n"
ground_of (RequestEnd i) = bytes "an end is n or more\n"
ground_of (RequestEndsEqual i) = bytes "equal ends\n"
ground_of TableShort = bytes "the plan table has fewer than m entries\n"
ground_of (FateNumber i) = bytes "a number above 2w\n"
ground_of (Conflict i j) = bytes "two requests of one colour share a link\n"
ground_of CircuitEnd = bytes "an end is n or more\n"
ground_of CircuitEndsEqual = bytes "equal ends\n"
ground_of WayNumber = bytes "way not 0 (plain) or 1 (seam)\n"
ground_of ColourNumber = bytes "colour w or more\n"
ground_of ColourHeld = bytes "that colour is held on a link of the way\n"
ground_of BookFull = bytes "512 circuits are live or pending, and the book has no other place\n"
ground_of SerialsUsedUp = bytes "serial 65,535 has been given\n"
ground_of SerialNeverGiven = bytes "serial 0 or never given\n"
ground_of SerialRemoved = bytes "removed\n"
ground_of LinkNumber = bytes "link n or more\n"
ground_of BufferShort = bytes "buffer shorter than the length\n"
ground_of StoredLength = bytes "length 0, not a multiple of 512, or above 7,168 (5,120 in the old form)\n"
ground_of BlockCheck = bytes "a wrong block number or check\n"
ground_of StoredForm =
    bytes "a record with fate number 0, or anything else that breaks the stored form, "
    ++ bytes "a limit, the rising serials from 1 up to the grants so far, or feasibility\n"
ground_of TextForm = bytes "more than 8,192 bytes, or a text not of the stated form\n"
ground_of LineCount = bytes "no line or more than 16\n"
ground_of SerialLive = bytes "the circuit is live\n"
ground_of SerialConfirmed = bytes "already confirmed\n"
ground_of MarkedRecord = bytes "a record that is pending or whose crew is not 0 has no old form\n"
ground_of CrewNumber = bytes "crew above 999\n"
ground_of MarkedConversion = bytes "a record that is pending or whose crew is not 0 cannot be converted back\n"
ground_of RevisionLow = bytes "revision too low\n"
ground_of LinkLengths = bytes "not n lengths, or a length not 1 to 1,000,000\n"
ground_of ChargeRates = bytes "not three rates, or a rate above 100,000\n"

-- The grounds' numbers and the lengths of their words.
use Prim.Native.Nat.{ℕ, ◌≤◌}
use mathlib.Core.Path.{◌≡◌, refl}
use mathlib.Core.Bool.{Bool, true, ◌&&◌}
use lib.Dec.{leb}
use lib.ListN.{length}
use borrow.Author.Tests.{leb-true}
use Rattle.ring.specs.declared.refusals.Refusal.{Refusal}
use Rattle.ring.specs.declared.refusals.Refusal.TheVariants.{NodeCount, ColourCount, RequestCount, RequestEnd, RequestEndsEqual}
use Rattle.ring.specs.declared.refusals.Refusal.TheVariants.{TableShort, FateNumber, Conflict, CircuitEnd, CircuitEndsEqual, WayNumber}
use Rattle.ring.specs.declared.refusals.Refusal.TheVariants.{ColourNumber, ColourHeld, BookFull, SerialsUsedUp, SerialNeverGiven}
use Rattle.ring.specs.declared.refusals.Refusal.TheVariants.{SerialRemoved, LinkNumber, BufferShort, StoredLength, BlockCheck, StoredForm}
use Rattle.ring.specs.declared.refusals.Refusal.TheVariants.{TextForm, LineCount, SerialLive, SerialConfirmed, MarkedRecord, CrewNumber}
use Rattle.ring.specs.declared.refusals.Refusal.TheVariants.{MarkedConversion, RevisionLow, LinkLengths, ChargeRates}
use Rattle.ring.specs.Refusals.{number_of}
use Rattle.ring.proofs.Cases.{and_true}
use Rattle.texts.specs.Grounds.{ground_of}

-- the number is one of 1 to 30, and the words are short
abbrev right : Refusal → Bool
right r = (leb 1 (number_of r) && leb (number_of r) 30) && leb (length (ground_of r)) 160

all_right : (r : Refusal) → right r ≡ true
all_right NodeCount = refl
all_right ColourCount = refl
all_right RequestCount = refl
all_right (RequestEnd i) = refl
all_right (RequestEndsEqual i) = refl
all_right TableShort = refl
all_right (FateNumber i) = refl
all_right (Conflict i j) = refl
all_right CircuitEnd = refl
all_right CircuitEndsEqual = refl
all_right WayNumber = refl
all_right ColourNumber = refl
all_right ColourHeld = refl
all_right BookFull = refl
all_right SerialsUsedUp = refl
all_right SerialNeverGiven = refl
all_right SerialRemoved = refl
all_right LinkNumber = refl
all_right BufferShort = refl
all_right StoredLength = refl
all_right BlockCheck = refl
all_right StoredForm = refl
all_right TextForm = refl
all_right LineCount = refl
all_right SerialLive = refl
all_right SerialConfirmed = refl
all_right MarkedRecord = refl
all_right CrewNumber = refl
all_right MarkedConversion = refl
all_right RevisionLow = refl
all_right LinkLengths = refl
all_right ChargeRates = refl

pub line_of : (r : Refusal) {k : ℕ} → k ≡ number_of r → (1 ≤ k) × (k ≤ 30)
line_of r p =
    let line = and_true (leb 1 (number_of r)) (leb (number_of r) 30) (and_true (leb 1 (number_of r) && leb (number_of r) 30) _ (all_right r)).0 in
    rw p (leb-true 1 (number_of r) line.0, leb-true (number_of r) 30 line.1)

pub ground_short : (r : Refusal) → length (ground_of r) ≤ 160
ground_short r = leb-true (length (ground_of r)) 160 (and_true (leb 1 (number_of r) && leb (number_of r) 30) _ (all_right r)).1

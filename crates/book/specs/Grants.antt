-- Granting a circuit.
use Rattle.std.specs.Prelude.{ℕ, ◌+◌, ◌≡◌, Bool, cond, ◌&&◌, List, [], ◌∷◌, eqb, leb, ltb, set, Result, Ok, Err}
use Rattle.ring.specs.declared.requests.Request.{Request}
use Rattle.ring.specs.declared.ways.Way.{Way}
use Rattle.ring.specs.declared.ways.Way.TheVariants.{Plain, Seam}
use Rattle.ring.specs.declared.refusals.Refusal.{Refusal}
use Rattle.ring.specs.declared.refusals.Refusal.TheVariants.{CircuitEnd, CircuitEndsEqual, WayNumber, ColourNumber, ColourHeld, BookFull}
use Rattle.ring.specs.declared.refusals.Refusal.TheVariants.{SerialsUsedUp}
use Rattle.ring.specs.Requests.{request_of}
use Rattle.ring.specs.Ways.{uses, some_link}
use Rattle.ring.specs.Refusals.{Verdict, refuse_if, or_else}
use Rattle.ring.specs.Answers.{InNumbers, gives, refuses}
use Rattle.ring.specs.Admission.{ends_verdict}
use Rattle.book.specs.declared.circuits.RecordState.TheVariants.{Live}
use Rattle.book.specs.declared.circuits.Circuit.{Circuit}
use Rattle.book.specs.declared.books.Book.{Book}
use Rattle.book.specs.Circuits.{some_circuit, holds}
use Rattle.book.specs.Books.{records_of, Valid}
use Rattle.book.specs.Crews.{crew_verdict}

-- what comes of a grant: its answer, a serial or a refusal, and the book after it
pub record Granted : Type 0 where
  pub answer : Result ℕ Refusal
  pub book : Book

-- "way not 0 (plain) or 1 (seam)"
abbrev pub way_of : ℕ → Way
way_of way = cond (eqb way 0) Plain Seam

-- the circuit of a grant, live; its "order of ends has no meaning", the smaller is a; it "carries a crew number"
abbrev pub circuit_of : ℕ → ℕ → ℕ → ℕ → ℕ → ℕ → Circuit
circuit_of serial x y way colour crew =
    record { serial = serial; a = (request_of x y).a; b = (request_of x y).b; way = way_of way; colour = colour; crew = crew; state = Live }

-- some circuit holds the colour on the link
unfoldable pub held_in : List Circuit → ℕ → ℕ → Bool
held_in cs link colour = some_circuit cs (λ c. holds c link colour)

-- some circuit holds the colour on a link of the way, of n links
unfoldable pub held_on_way : ℕ → List Circuit → Way → Request → ℕ → Bool
held_on_way n cs way r colour = some_link n (λ link. uses way r link && held_in cs link colour)

-- "that colour is held on a link of the way", by a live circuit or a pending one
unfoldable pub colour_held : Book → Way → Request → ℕ → Bool
colour_held b way r colour = held_on_way b.n (records_of b) way r colour

-- "4, 5, 9 way not 0 (plain) or 1 (seam), 10 colour w or more", and 26 "directly before 11": the grounds that lie in the arguments alone
unfoldable pub argument_verdict : ℕ → ℕ → ℕ → ℕ → ℕ → ℕ → ℕ → Verdict
argument_verdict n w x y way colour crew =
    or_else (ends_verdict n x y CircuitEnd CircuitEndsEqual)
    (or_else (refuse_if (ltb 1 way) WayNumber)
    (or_else (refuse_if (leb w colour) ColourNumber)
    (crew_verdict crew)))

-- "12 512 live", and "12 counts both", live and pending; "13 serial 65,535 has been given"
unfoldable pub room_verdict : ℕ → ℕ → Verdict
room_verdict records grants =
    or_else (refuse_if (leb 512 records) BookFull)
    (refuse_if (leb 65535 grants) SerialsUsedUp)

-- 4, 5, 9, 10, 26, "11 that colour is held on a link of the way", 12, 13, "tested in the order written"
unfoldable pub grant_verdict : Book → ℕ → ℕ → ℕ → ℕ → ℕ → Verdict
grant_verdict b x y way colour crew =
    or_else (argument_verdict b.n b.w x y way colour crew)
    (or_else (refuse_if (colour_held b (way_of way) (request_of x y) colour) ColourHeld)
    (room_verdict b.records b.grants))

-- the book with one circuit more, behind its records, and one grant more
abbrev pub with_circuit : Book → Circuit → Book
with_circuit b c = record { n = b.n; w = b.w; grants = b.grants + 1; records = b.records + 1; places = set b.places b.records c }

-- the grant of a circuit; a refused grant changes nothing
abbrev pub grant_unless : Verdict → Book → Circuit → Granted
grant_unless (Ok allowed) b c = record { answer = Ok c.serial; book = with_circuit b c }
grant_unless (Err r) b c = record { answer = Err r; book = b }

-- "Grant. .. Success gives the serial": one more than the grants so far
unfoldable pub granted : Book → ℕ → ℕ → ℕ → ℕ → ℕ → Granted
granted b x y way colour crew = grant_unless (grant_verdict b x y way colour crew) b (circuit_of (b.grants + 1) x y way colour crew)

-- its answer in numbers: "Success gives the serial"
abbrev pub grant_in_numbers : Result ℕ Refusal → InNumbers
grant_in_numbers (Ok serial) = gives (serial ∷ [])
grant_in_numbers (Err r) = refuses r

-- the promise of grant. The grounds that lie in the arguments are those of any value of the struct; all others, and success, of the books
-- that the rules speak of: 11 is computed by comparing ends, which says nothing of circuits that are not on the book's nodes
pub record GrantPromise (b : Book) (x y way colour crew : ℕ) (result : Granted) : Type 0 where
  pub arguments : (r : Refusal) → argument_verdict b.n b.w x y way colour crew ≡ Err r
      → result ≡ record { answer = Err r; book = b }
  pub valid : Valid b → result ≡ granted b x y way colour crew

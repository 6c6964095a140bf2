-- Ground 11 by the ends of the records, and the verdict on a grant with it: what the code computes.
use Rattle.std.specs.Prelude.{ℕ, ◌<◌, ◌≡◌, Bool, ◌&&◌, List, eqb}
use Rattle.ring.specs.declared.requests.Request.{Request}
use Rattle.ring.specs.declared.ways.Way.{Way}
use Rattle.ring.specs.declared.refusals.Refusal.TheVariants.{ColourHeld}
use Rattle.ring.specs.Requests.{request_of}
use Rattle.ring.specs.Refusals.{Verdict, refuse_if, or_else}
use Rattle.ring.specs.Internal.Sharing.{sharing}
use Rattle.book.specs.declared.circuits.Circuit.{Circuit}
use Rattle.book.specs.declared.books.Book.{Book}
use Rattle.book.specs.Circuits.{some_circuit, ends_of}
use Rattle.book.specs.Books.{records_of, Valid}
use Rattle.book.specs.Grants.{way_of, colour_held, argument_verdict, room_verdict}

-- the circuit is of that colour, and its way shares a link with the way of the request
unfoldable pub conflicts : Circuit → Way → Request → ℕ → Bool
conflicts c way r colour = eqb c.colour colour && sharing way r c.way (ends_of c)

-- some circuit is
unfoldable pub conflict_in : List Circuit → Way → Request → ℕ → Bool
conflict_in cs way r colour = some_circuit cs (λ c. conflicts c way r colour)

-- the law that it is ground 11, in a valid book and for a request on its nodes
abbrev pub ConflictMeans : Type 0
ConflictMeans = (b : Book) → Valid b → (way : Way) (r : Request) (colour : ℕ) → r.a < r.b → r.b < b.n
    → conflict_in (records_of b) way r colour ≡ colour_held b way r colour

-- `grant_verdict` with ground 11 by ends
unfoldable pub verdict_by_ends : Book → ℕ → ℕ → ℕ → ℕ → ℕ → Verdict
verdict_by_ends b x y way colour crew =
    or_else (argument_verdict b.n b.w x y way colour crew)
    (or_else (refuse_if (conflict_in (records_of b) (way_of way) (request_of x y) colour) ColourHeld)
    (room_verdict b.records b.grants))

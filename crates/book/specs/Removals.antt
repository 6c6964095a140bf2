-- Removing a circuit: its record stays, pending.
use Rattle.std.specs.Prelude.{ℕ, [], set, Option, Some, None, Result, Ok, Err, ⊤}
use Rattle.ring.specs.declared.refusals.Refusal.{Refusal}
use Rattle.ring.specs.Answers.{InNumbers, gives, refuses}
use Rattle.book.specs.declared.circuits.Circuit.{Circuit}
use Rattle.book.specs.declared.books.Book.{Book}
use Rattle.book.specs.Circuits.{as_pending}
use Rattle.book.specs.Orders.{lookup, live_found, missing}

-- what comes of a removal: its answer, and the book after it
pub record Removed : Type 0 where
  pub answer : Result ⊤ Refusal
  pub book : Book

-- the book with another record at a place
abbrev pub with_record : ℕ → Circuit → Book → Book
with_record i c b = record { n = b.n; w = b.w; grants = b.grants; records = b.records; places = set b.places i c }

-- "A removal therefore leaves the record pending": "place and colour stay held"; a refused one changes nothing
abbrev pub remove_found : Option (ℕ × Circuit) → Refusal → Book → Removed
remove_found (Some (i, c)) r b = record { answer = Ok tt; book = with_record i (as_pending c) b }
remove_found None r b = record { answer = Err r; book = b }

-- "14 serial 0 or never given, 15 removed."
unfoldable pub removed : Book → ℕ → Removed
removed b serial = remove_found (live_found (lookup b serial)) (missing b serial) b

-- its answer in numbers
abbrev pub remove_in_numbers : Result ⊤ Refusal → InNumbers
remove_in_numbers (Ok done) = gives []
remove_in_numbers (Err r) = refuses r

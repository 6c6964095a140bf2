-- Confirming the pull of a removed circuit.
use Rattle.std.specs.Prelude.{ℕ, ◌+◌, ◌-◌, Bool, true, false, cond, List, [], ◌∷◌, ◌++◌, length, take, drop, Option, Some, None, Result, Ok}
use Rattle.std.specs.Prelude.{Err, ⊤}
use Rattle.ring.specs.declared.refusals.Refusal.{Refusal}
use Rattle.ring.specs.declared.refusals.Refusal.TheVariants.{SerialNeverGiven, SerialLive, SerialConfirmed}
use Rattle.ring.specs.Answers.{InNumbers, gives, refuses}
use Rattle.book.specs.declared.circuits.Circuit.{Circuit}
use Rattle.book.specs.declared.books.Book.{Book}
use Rattle.book.specs.Circuits.{vacant, is_live}
use Rattle.book.specs.Books.{records_of}
use Rattle.book.specs.Orders.{never_given, lookup}

-- what comes of a confirmation: its answer, and the book after it
pub record Confirmed : Type 0 where
  pub answer : Result ⊤ Refusal
  pub book : Book

-- the circuits without the one at a place
abbrev pub without : ℕ → List Circuit → List Circuit
without i cs = take i cs ++ drop (i + 1) cs

-- the book without the record at a place: the later records move down by one, and the place that falls free is vacant
abbrev pub without_circuit : ℕ → Book → Book
without_circuit i b = record {
  n = b.n;
  w = b.w;
  grants = b.grants;
  records = length (records_of b) - 1;
  places = without i (records_of b) ++ (vacant ∷ drop b.records b.places);
}

-- "confirm answers 14, .. 24 if already confirmed", of a serial that has no record
unfoldable pub absent : Book → ℕ → Refusal
absent b serial = cond (never_given b.grants serial) SerialNeverGiven SerialConfirmed

-- "23 if the circuit is live"; else "Confirming frees both", place and colour
abbrev pub confirm_record : Bool → ℕ → Book → Confirmed
confirm_record true i b = record { answer = Err SerialLive; book = b }
confirm_record false i b = record { answer = Ok tt; book = without_circuit i b }

-- of the record that was found, or none; a refused confirmation changes nothing
abbrev pub confirm_found : Option (ℕ × Circuit) → Refusal → Book → Confirmed
confirm_found (Some (i, c)) r b = confirm_record (is_live c) i b
confirm_found None r b = record { answer = Err r; book = b }

-- "Confirming": 14, "then 23 if the circuit is live, then 24 if already confirmed"; a serial that was never given has no record
unfoldable pub confirmed : Book → ℕ → Confirmed
confirmed b serial = confirm_found (lookup b serial) (absent b serial) b

-- its answer in numbers
abbrev pub confirm_in_numbers : Result ⊤ Refusal → InNumbers
confirm_in_numbers (Ok done) = gives []
confirm_in_numbers (Err r) = refuses r

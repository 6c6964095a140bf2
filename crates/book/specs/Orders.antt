-- Looking an order up and showing it.
use Rattle.std.specs.Prelude.{ℕ, ◌+◌, Bool, cond, ◌||◌, List, [], ◌∷◌, eqb, ltb, Option, Some, None, Result, Ok, Err}
use Rattle.ring.specs.declared.refusals.Refusal.{Refusal}
use Rattle.ring.specs.declared.refusals.Refusal.TheVariants.{SerialNeverGiven, SerialRemoved}
use Rattle.ring.specs.Refusals.{Verdict}
use Rattle.ring.specs.Fates.{way_number}
use Rattle.ring.specs.Answers.{InNumbers, gives, refuses}
use Rattle.book.specs.declared.circuits.Circuit.{Circuit}
use Rattle.book.specs.declared.books.Book.{Book}
use Rattle.book.specs.Circuits.{is_live, desk}
use Rattle.book.specs.Books.{records_of}
use Rattle.book.specs.Crews.{crew_verdict, is_own}

-- "serial 0 or never given", after so many grants
unfoldable pub never_given : ℕ → ℕ → Bool
never_given grants serial = eqb serial 0 || ltb grants serial

-- the first record of that serial, behind its place, counted from i
unfoldable pub lookup_in : ℕ → List Circuit → ℕ → Option (ℕ × Circuit)
lookup_in i [] serial = None
lookup_in i (c ∷ cs) serial = cond (eqb c.serial serial) (Some (i, c)) (lookup_in (i + 1) cs serial)

-- the record of a serial, live or pending
unfoldable pub lookup : Book → ℕ → Option (ℕ × Circuit)
lookup b serial = cond (never_given b.grants serial) None (lookup_in 0 (records_of b) serial)

-- the record, if it is live: "its order is answered 15" as soon as it is pending
abbrev pub live_found : Option (ℕ × Circuit) → Option (ℕ × Circuit)
live_found (Some (i, c)) = cond (is_live c) (Some (i, c)) None
live_found None = None

-- "14 serial 0 or never given, 15 removed", of a serial that is not live
unfoldable pub missing : Book → ℕ → Refusal
missing b serial = cond (never_given b.grants serial) SerialNeverGiven SerialRemoved

-- the record that was found, or a refusal
abbrev pub show_found : Option (ℕ × Circuit) → Refusal → Result Circuit Refusal
show_found (Some (i, c)) r = Ok c
show_found None r = Err r

-- "Show gives a, b, way and colour." It is what the desk reads
unfoldable pub shown : Book → ℕ → Result Circuit Refusal
shown b serial = show_found (live_found (lookup b serial)) (missing b serial)

-- the record, if it is live and the crew's own
abbrev pub own_found : ℕ → Option (ℕ × Circuit) → Option (ℕ × Circuit)
own_found crew (Some (i, c)) = cond (is_own crew c) (Some (i, c)) None
own_found crew None = None

-- "Another crew that shows an order gets the circuit if it is live and its own, and 14 for every other serial."
unfoldable pub own_shown : ℕ → Book → ℕ → Result Circuit Refusal
own_shown crew b serial = show_found (own_found crew (lookup b serial)) SerialNeverGiven

-- what is shown, or the refusal of a verdict
abbrev pub show_unless : Verdict → Result Circuit Refusal → Result Circuit Refusal
show_unless (Ok allowed) order = order
show_unless (Err r) order = Err r

-- 26 "in both questions first"; then "The desk reads as before"
unfoldable pub shown_to : ℕ → Book → ℕ → Result Circuit Refusal
shown_to crew b serial = show_unless (crew_verdict crew) (cond (eqb crew desk) (shown b serial) (own_shown crew b serial))

-- its answer in numbers
abbrev pub show_in_numbers : Result Circuit Refusal → InNumbers
show_in_numbers (Ok c) = gives (c.a ∷ c.b ∷ way_number c.way ∷ c.colour ∷ [])
show_in_numbers (Err r) = refuses r

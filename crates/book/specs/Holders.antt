-- The holder of a colour on a link.
use Rattle.std.specs.Prelude.{ℕ, cond, ◌||◌, List, [], ◌∷◌, eqb, leb, Result, Ok, Err}
use Rattle.ring.specs.declared.refusals.Refusal.{Refusal}
use Rattle.ring.specs.declared.refusals.Refusal.TheVariants.{LinkNumber, ColourNumber}
use Rattle.ring.specs.Refusals.{Verdict, refuse_if, or_else}
use Rattle.ring.specs.Answers.{InNumbers, gives, refuses}
use Rattle.book.specs.declared.circuits.Circuit.{Circuit}
use Rattle.book.specs.declared.books.Book.{Book}
use Rattle.book.specs.declared.holders.Holder.{Holder}
use Rattle.book.specs.declared.holders.Holder.TheVariants.{Free, Held, HeldBy}
use Rattle.book.specs.Circuits.{desk, holds}
use Rattle.book.specs.Books.{records_of}
use Rattle.book.specs.Crews.{crew_verdict, is_own}

-- the desk learns the serial of the circuit that holds; another crew "held by its own live order with the serial, or held"
abbrev pub told_to : ℕ → Circuit → Holder
told_to crew c = cond (eqb crew desk || is_own crew c) (HeldBy c.serial) Held

-- what a crew learns of the first circuit that holds the colour on the link; in a valid book no other circuit holds it
unfoldable pub holder_in : ℕ → List Circuit → ℕ → ℕ → Holder
holder_in crew [] link colour = Free
holder_in crew (c ∷ cs) link colour = cond (holds c link colour) (told_to crew c) (holder_in crew cs link colour)

-- "16 link n or more, 10"
unfoldable pub holder_verdict : Book → ℕ → ℕ → Verdict
holder_verdict b link colour = or_else (refuse_if (leb b.n link) LinkNumber) (refuse_if (leb b.w colour) ColourNumber)

-- the holder, or the refusal of a verdict
abbrev pub holder_unless : Verdict → Result Holder Refusal → Result Holder Refusal
holder_unless (Ok allowed) holder = holder
holder_unless (Err r) holder = Err r

-- "The answer is free or a serial." It is what the desk reads
unfoldable pub held_by : Book → ℕ → ℕ → Result Holder Refusal
held_by b link colour = holder_unless (holder_verdict b link colour) (Ok (holder_in desk (records_of b) link colour))

-- "On a link and colour it learns free, held by its own live order with the serial, or held"; 26 "in both questions first"
unfoldable pub held_for : ℕ → Book → ℕ → ℕ → Result Holder Refusal
held_for crew b link colour =
    holder_unless (or_else (crew_verdict crew) (holder_verdict b link colour)) (Ok (holder_in crew (records_of b) link colour))

-- in numbers: 0 free, 1 held, 2 held by an order that the crew may read; then its serial, or 0, which is no serial
abbrev pub holder_in_numbers : Result Holder Refusal → InNumbers
holder_in_numbers (Ok Free) = gives (0 ∷ 0 ∷ [])
holder_in_numbers (Ok Held) = gives (1 ∷ 0 ∷ [])
holder_in_numbers (Ok (HeldBy serial)) = gives (2 ∷ serial ∷ [])
holder_in_numbers (Err r) = refuses r

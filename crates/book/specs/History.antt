-- What every history of calls from open comes to, said of the calls and their answers: "about the desk's reading".
use Rattle.std.specs.Prelude.{ℕ, zero, suc, ◌+◌, ◌<◌, ◌≡◌, Bool, true, false, ◌||◌, List, [], ◌∷◌, ◌⊎◌, ◌↔◌, eqb, length, Result, Ok, Err}
use Rattle.std.specs.Prelude.{⊤}
use Rattle.ring.specs.declared.refusals.Refusal.{Refusal}
use Rattle.ring.specs.declared.refusals.Refusal.TheVariants.{SerialNeverGiven, SerialRemoved, SerialLive, SerialConfirmed}
use Rattle.ring.specs.Admission.{ring_verdict}
use Rattle.ring.specs.Matchings.{NoTwice}
use Rattle.ring.specs.Ways.{uses}
use Rattle.book.specs.declared.circuits.Circuit.{Circuit}
use Rattle.book.specs.declared.books.Book.{Book}
use Rattle.book.specs.declared.holders.Holder.{Holder as Told}
use Rattle.book.specs.declared.holders.Holder.TheVariants as holder
use Rattle.book.specs.Circuits.{ends_of, holds}
use Rattle.book.specs.Books.{live_of, Valid, opened}
use Rattle.book.specs.Grants.{circuit_of, granted}
use Rattle.book.specs.Orders.{shown, shown_to}
use Rattle.book.specs.Removals.{removed}
use Rattle.book.specs.Confirmations.{confirmed}
use Rattle.book.specs.Holders.{held_by, held_for}

-- open gives a valid book, and grant, remove and confirm keep it so; the questions give no book
pub record KeepsValid : Type 0 where
  pub opening : (n w : ℕ) → ring_verdict n w ≡ Ok tt → Valid (opened n w).book
  pub granting : (b : Book) → Valid b → (x y way colour crew : ℕ) → Valid (granted b x y way colour crew).book
  pub removing : (b : Book) → Valid b → (serial : ℕ) → Valid (removed b serial).book
  pub confirming : (b : Book) → Valid b → (serial : ℕ) → Valid (confirmed b serial).book

-- a call on a book, with any arguments
pub data Call : Type 0 where
  Grant : (x y way colour crew : ℕ) → Call
  Remove : (serial : ℕ) → Call
  Confirm : (serial : ℕ) → Call
  Show : (serial crew : ℕ) → Call
  Holder : (link colour crew : ℕ) → Call

-- a call with its answer
pub data Event : Type 0 where
  GrantAnswered : (x y way colour crew : ℕ) → Result ℕ Refusal → Event
  RemoveAnswered : (serial : ℕ) → Result ⊤ Refusal → Event
  ConfirmAnswered : (serial : ℕ) → Result ⊤ Refusal → Event
  ShowAnswered : (serial crew : ℕ) → Result Circuit Refusal → Event
  HolderAnswered : (link colour crew : ℕ) → Result Told Refusal → Event

-- the answer of a call on a book
abbrev pub event : Book → Call → Event
event b (Grant x y way colour crew) = GrantAnswered x y way colour crew (granted b x y way colour crew).answer
event b (Remove serial) = RemoveAnswered serial (removed b serial).answer
event b (Confirm serial) = ConfirmAnswered serial (confirmed b serial).answer
event b (Show serial crew) = ShowAnswered serial crew (shown_to crew b serial)
event b (Holder link colour crew) = HolderAnswered link colour crew (held_for crew b link colour)

-- the book after a call; questions change nothing
abbrev pub after : Book → Call → Book
after b (Grant x y way colour crew) = (granted b x y way colour crew).book
after b (Remove serial) = (removed b serial).book
after b (Confirm serial) = (confirmed b serial).book
after b (Show serial crew) = b
after b (Holder link colour crew) = b

-- the book after a list of calls, the latest of them first
abbrev pub run : Book → List Call → Book
run b [] = b
run b (call ∷ calls) = after (run b calls) call

-- the calls with their answers, the latest first
abbrev pub history : Book → List Call → List Event
history b [] = []
history b (call ∷ calls) = event (run b calls) call ∷ history b calls

-- an accepted grant gave this serial to this circuit
abbrev pub Gives : Event → ℕ → Circuit → Type 0
Gives (GrantAnswered x y way colour crew (Ok given)) serial c = (given ≡ serial) × (circuit_of given x y way colour crew ≡ c)
Gives (GrantAnswered x y way colour crew (Err r)) serial c = ⊥
Gives (RemoveAnswered s a) serial c = ⊥
Gives (ConfirmAnswered s a) serial c = ⊥
Gives (ShowAnswered s crew a) serial c = ⊥
Gives (HolderAnswered l k crew a) serial c = ⊥

-- an accepted grant gave this serial
abbrev pub gave : Event → ℕ → Bool
gave (GrantAnswered x y way colour crew (Ok given)) serial = eqb given serial
gave (GrantAnswered x y way colour crew (Err r)) serial = false
gave (RemoveAnswered s a) serial = false
gave (ConfirmAnswered s a) serial = false
gave (ShowAnswered s crew a) serial = false
gave (HolderAnswered l k crew a) serial = false

-- an accepted removal named this serial
abbrev pub removes : Event → ℕ → Bool
removes (RemoveAnswered named (Ok done)) serial = eqb named serial
removes (RemoveAnswered named (Err r)) serial = false
removes (GrantAnswered x y way colour crew a) serial = false
removes (ConfirmAnswered s a) serial = false
removes (ShowAnswered s crew a) serial = false
removes (HolderAnswered l k crew a) serial = false

-- an accepted confirmation named this serial
abbrev pub confirms : Event → ℕ → Bool
confirms (ConfirmAnswered named (Ok done)) serial = eqb named serial
confirms (ConfirmAnswered named (Err r)) serial = false
confirms (GrantAnswered x y way colour crew a) serial = false
confirms (RemoveAnswered s a) serial = false
confirms (ShowAnswered s crew a) serial = false
confirms (HolderAnswered l k crew a) serial = false

-- an order is live: an accepted grant gave this serial to this circuit, and no later accepted removal named it
abbrev pub Live : List Event → ℕ → Circuit → Type 0
Live [] serial c = ⊥
Live (latest ∷ earlier) serial c = Gives latest serial c ⊎ ((removes latest serial ≡ false) × Live earlier serial c)

-- it is pending: an accepted removal named it while it was live, as this circuit, and no later accepted confirmation named it
abbrev pub Pending : List Event → ℕ → Circuit → Type 0
Pending [] serial c = ⊥
Pending (latest ∷ earlier) serial c =
    ((removes latest serial ≡ true) × Live earlier serial c) ⊎ ((confirms latest serial ≡ false) × Pending earlier serial c)

-- some accepted grant of the history gave this serial
abbrev pub was_given : List Event → ℕ → Bool
was_given [] serial = false
was_given (latest ∷ earlier) serial = gave latest serial || was_given earlier serial

-- some accepted removal of the history named this serial
abbrev pub was_removed : List Event → ℕ → Bool
was_removed [] serial = false
was_removed (latest ∷ earlier) serial = removes latest serial || was_removed earlier serial

-- some accepted confirmation of the history named this serial
abbrev pub was_confirmed : List Event → ℕ → Bool
was_confirmed [] serial = false
was_confirmed (latest ∷ earlier) serial = confirms latest serial || was_confirmed earlier serial

-- the serials that the accepted grants gave, the latest first
abbrev pub given : List Event → List ℕ
given [] = []
given (GrantAnswered x y way colour crew (Ok serial) ∷ h) = serial ∷ given h
given (GrantAnswered x y way colour crew (Err r) ∷ h) = given h
given (RemoveAnswered s a ∷ h) = given h
given (ConfirmAnswered s a ∷ h) = given h
given (ShowAnswered s crew a ∷ h) = given h
given (HolderAnswered l k crew a ∷ h) = given h

-- the number of accepted removals
abbrev pub removals : List Event → ℕ
removals [] = 0
removals (RemoveAnswered s (Ok done) ∷ h) = suc (removals h)
removals (RemoveAnswered s (Err r) ∷ h) = removals h
removals (GrantAnswered x y way colour crew a ∷ h) = removals h
removals (ConfirmAnswered s a ∷ h) = removals h
removals (ShowAnswered s crew a ∷ h) = removals h
removals (HolderAnswered l k crew a ∷ h) = removals h

-- the number of accepted confirmations
abbrev pub confirmations : List Event → ℕ
confirmations [] = 0
confirmations (ConfirmAnswered s (Ok done) ∷ h) = suc (confirmations h)
confirmations (ConfirmAnswered s (Err r) ∷ h) = confirmations h
confirmations (GrantAnswered x y way colour crew a ∷ h) = confirmations h
confirmations (RemoveAnswered s a ∷ h) = confirmations h
confirmations (ShowAnswered s crew a ∷ h) = confirmations h
confirmations (HolderAnswered l k crew a ∷ h) = confirmations h

-- k, and on down to 1
abbrev pub down_from : ℕ → List ℕ
down_from zero = []
down_from (suc k) = suc k ∷ down_from k

-- a live or pending circuit's way uses the link in that colour, and its order has this serial
pub record Holding (h : List Event) (link colour serial : ℕ) : Type 0 where
  pub order : Circuit
  pub stands : Live h serial order ⊎ Pending h serial order
  pub holding : holds order link colour ≡ true

-- what is so of a book b after a history h of calls from the opening of a book with n nodes and w colours
pub record AfterHistory (n w : ℕ) (h : List Event) (b : Book) : Type 0 where
  pub valid : Valid b
  -- the ring stays, so that 4, 10 and 16 are tested against the n and w of the opening, and 13 against the number of accepted grants
  pub nodes : b.n ≡ n
  pub colours : b.w ≡ w
  pub grants : b.grants ≡ length (given h)
  -- show gives a circuit exactly if an accepted grant gave it this serial and no later accepted removal named it
  pub shows : (serial : ℕ) (c : Circuit) → ((shown b serial ≡ Ok c) ↔ Live h serial c)
  -- "14 serial 0 or never given": show, remove and confirm answer so exactly if no accepted grant gave the serial
  pub unknown : (serial : ℕ) → ((shown b serial ≡ Err SerialNeverGiven) ↔ (was_given h serial ≡ false))
  pub unknown_removal : (serial : ℕ) → (((removed b serial).answer ≡ Err SerialNeverGiven) ↔ (was_given h serial ≡ false))
  pub unknown_confirmation : (serial : ℕ)
      → (((confirmed b serial).answer ≡ Err SerialNeverGiven) ↔ (was_given h serial ≡ false))
  -- "15 removed": exactly if one gave it and an accepted removal named it
  pub gone : (serial : ℕ) → ((shown b serial ≡ Err SerialRemoved) ↔ ((was_given h serial ≡ true) × (was_removed h serial ≡ true)))
  pub gone_removal : (serial : ℕ)
      → (((removed b serial).answer ≡ Err SerialRemoved) ↔ ((was_given h serial ≡ true) × (was_removed h serial ≡ true)))
  -- "23 if the circuit is live": exactly if one gave it and no accepted removal named it
  pub still_live : (serial : ℕ)
      → (((confirmed b serial).answer ≡ Err SerialLive) ↔ ((was_given h serial ≡ true) × (was_removed h serial ≡ false)))
  -- "24 if already confirmed": exactly if an accepted confirmation named it
  pub pulled : (serial : ℕ) → (((confirmed b serial).answer ≡ Err SerialConfirmed) ↔ (was_confirmed h serial ≡ true))
  -- a colour on a link is held exactly if a live or pending circuit's way uses the link in that colour, and the holder is its order
  pub held : (link colour : ℕ) → link < n → colour < w → (serial : ℕ)
      → ((held_by b link colour ≡ Ok (holder.HeldBy serial)) ↔ Holding h link colour serial)
  pub free : (link colour : ℕ) → link < n → colour < w
      → ((held_by b link colour ≡ Ok holder.Free) ↔ ((serial : ℕ) → Holding h link colour serial → ⊥))
  -- a removal frees no link: each colour on each link has the holder that it had
  pub keeps : (serial link colour : ℕ) → held_by (removed b serial).book link colour ≡ held_by b link colour
  -- a confirmation frees every link of the circuit's way; of a seam way those below a, from link 0 on, as well as those from b to n - 1
  pub frees : (serial : ℕ) (c : Circuit) → Pending h serial c → (link : ℕ) → link < n → uses c.way (ends_of c) link ≡ true
      → held_by (confirmed b serial).book link c.colour ≡ Ok holder.Free
  -- "The live count is the accepted grants less the accepted removals."
  pub count : length (live_of b) + removals h ≡ length (given h)
  -- "12 counts both": the records are the accepted grants less the accepted confirmations
  pub records : b.records + confirmations h ≡ length (given h)
  -- "Serials rise from 1 and are never given twice."
  pub serials : given h ≡ down_from (length (given h))
  pub once : NoTwice (given h)

-- demand 2 of the book: it is so after every list of calls from open
abbrev pub EveryHistory : Type 0
EveryHistory = (n w : ℕ) → ring_verdict n w ≡ Ok tt → (calls : List Call)
    → AfterHistory n w (history (opened n w).book calls) (run (opened n w).book calls)

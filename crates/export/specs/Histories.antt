-- What the calls on a book promise together: the book in the buffer goes through the book's own histories.
use Rattle.std.specs.Prelude.{ℕ, ◌≤◌, ◌<◌, ◌≡◌, Bool, cond, List, [], ◌∷◌, eqb, length, get_or, Err}
use Rattle.ring.specs.Answers.{InNumbers, gives, refuses}
use Rattle.ring.specs.declared.refusals.Refusal.TheVariants.{StoredLength, RevisionLow}
use Rattle.book.specs.Books.{opened}
use Rattle.book.specs.Orders.{shown_to, show_in_numbers}
use Rattle.bundles.specs.Previews.{previewed_all, preview_in_numbers}
use Rattle.book.specs.Holders.{held_for, holder_in_numbers}
use Rattle.book.specs.Revisions.{revision}
use Rattle.charges.specs.Charges.{charged, book_charged}
use Rattle.book.specs.History.{Call, Grant, Remove, Confirm, Show, Holder, run}
use Rattle.stored.specs.Loading.{loaded}
use Rattle.stored.specs.Histories.{StoredAfter}
use Rattle.outcomes.specs.Outcomes.{Outcome, on_success}
use Rattle.outcomes.specs.Changes.{grant_on, remove_on, confirm_on}
use Rattle.export.specs.BookCalls.{front, open_call, grant_call, remove_call, confirm_call}
use Rattle.outcomes.specs.Entries.{lines_of_entries, halves}
use Rattle.export.specs.BookCalls.{show_call, holder_call, preview_call, load_call, convert_call, convert_back_call}
use Rattle.export.specs.BookCalls.{charge_call, charge_all_call}

-- a change whose result is not 0 leaves the buffer as it is
pub record RefusedLeaves : Type 0 where
  pub opening : (n w : ℕ) (buffer : List ℕ) → ((open_call n w buffer).answer.number ≡ 0 → ⊥) → (open_call n w buffer).buffer ≡ buffer
  pub granting : (buffer : List ℕ) (size x y way colour crew : ℕ) → ((grant_call buffer size x y way colour crew).answer.number ≡ 0 → ⊥)
      → (grant_call buffer size x y way colour crew).buffer ≡ buffer
  pub removing : (buffer : List ℕ) (size serial : ℕ) → ((remove_call buffer size serial).answer.number ≡ 0 → ⊥)
      → (remove_call buffer size serial).buffer ≡ buffer
  pub confirming : (buffer : List ℕ) (size serial : ℕ) → ((confirm_call buffer size serial).answer.number ≡ 0 → ⊥)
      → (confirm_call buffer size serial).buffer ≡ buffer
  pub converting : (bytes buffer : List ℕ) → ((convert_call bytes buffer).answer.number ≡ 0 → ⊥) → (convert_call bytes buffer).buffer ≡ buffer
  pub converting_back : (bytes buffer : List ℕ) → ((convert_back_call bytes buffer).answer.number ≡ 0 → ⊥)
      → (convert_back_call bytes buffer).buffer ≡ buffer

-- a length above the buffer's own is refused by 18
abbrev pub LengthPast : Type 0
LengthPast = (buffer : List ℕ) (size : ℕ) → length buffer < size → (loaded 0 (front size buffer)).answer ≡ Err StoredLength

-- a buffer, and the length of the book in it as the latest change gave it
pub record Kept : Type 0 where
  pub buffer : List ℕ
  pub size : ℕ

-- what a change leaves there; it gives the length as this one of its values
abbrev pub kept_by : Kept → ℕ → Outcome → Kept
kept_by kept entry outcome =
    record { buffer = outcome.buffer; size = on_success outcome.answer (get_or outcome.answer.values entry 0) kept.size }

-- the answer of a call that is given that buffer and length
abbrev pub answer_of : Kept → Call → InNumbers
answer_of kept (Grant x y way colour crew) = (grant_call kept.buffer kept.size x y way colour crew).answer
answer_of kept (Remove serial) = (remove_call kept.buffer kept.size serial).answer
answer_of kept (Confirm serial) = (confirm_call kept.buffer kept.size serial).answer
answer_of kept (Show serial crew) = show_call (front kept.size kept.buffer) serial crew
answer_of kept (Holder link colour crew) = holder_call (front kept.size kept.buffer) link colour crew

-- what the call leaves there
abbrev pub kept_after : Kept → Call → Kept
kept_after kept (Grant x y way colour crew) = kept_by kept 1 (grant_call kept.buffer kept.size x y way colour crew)
kept_after kept (Remove serial) = kept_by kept 0 (remove_call kept.buffer kept.size serial)
kept_after kept (Confirm serial) = kept_by kept 0 (confirm_call kept.buffer kept.size serial)
kept_after kept (Show serial crew) = kept
kept_after kept (Holder link colour crew) = kept

-- what a list of calls leaves there, the latest of them first
abbrev pub kept_run : Kept → List Call → Kept
kept_run kept [] = kept
kept_run kept (call ∷ calls) = kept_after (kept_run kept calls) call

-- a call that the book accepted, and that store refused, by 17
abbrev pub unstored : InNumbers → Bool
unstored answer = eqb answer.number 17

-- the calls of the list without those
abbrev pub stored_calls : Kept → List Call → List Call
stored_calls kept [] = []
stored_calls kept (call ∷ calls) =
    cond (unstored (answer_of (kept_run kept calls) call)) (stored_calls kept calls) (call ∷ stored_calls kept calls)

-- what an opening leaves in a buffer
abbrev pub opened_in : ℕ → ℕ → List ℕ → Kept
opened_in n w buffer = kept_by (record { buffer = buffer; size = 0 }) 0 (open_call n w buffer)

-- the buffer holds the book after these calls from an opening, and each call that is made next answers as that book does; it loads under a
-- lowest revision that is not above its own, and under no other
pub record KeptAfter (n w : ℕ) (calls : List Call) (kept : Kept) : Type 0 where
  pub stored : StoredAfter n w calls (front kept.size kept.buffer)
  pub grants : (x y way colour crew : ℕ)
      → answer_of kept (Grant x y way colour crew) ≡ (grant_on (run (opened n w).book calls) x y way colour crew kept.buffer).answer
  pub removals : (serial : ℕ) → answer_of kept (Remove serial) ≡ (remove_on (run (opened n w).book calls) serial kept.buffer).answer
  pub confirmations : (serial : ℕ)
      → answer_of kept (Confirm serial) ≡ (confirm_on (run (opened n w).book calls) serial kept.buffer).answer
  pub shows : (serial crew : ℕ) → answer_of kept (Show serial crew) ≡ show_in_numbers (shown_to crew (run (opened n w).book calls) serial)
  pub holders : (link colour crew : ℕ)
      → answer_of kept (Holder link colour crew) ≡ holder_in_numbers (held_for crew (run (opened n w).book calls) link colour)
  pub previews : (entries : List ℕ)
      → preview_call (front kept.size kept.buffer) entries
      ≡ preview_in_numbers (previewed_all (run (opened n w).book calls) (lines_of_entries entries))
  pub charges : (serial : ℕ) (lengths rates : List ℕ)
      → charge_call (front kept.size kept.buffer) serial lengths rates ≡ charged (run (opened n w).book calls) serial lengths rates
  pub book_charges : (lengths rates : List ℕ)
      → charge_all_call (front kept.size kept.buffer) lengths rates ≡ book_charged (run (opened n w).book calls) lengths rates
  pub loads : (lowest : ℕ) → lowest ≤ revision (run (opened n w).book calls)
      → load_call (front kept.size kept.buffer) lowest ≡ gives (halves (revision (run (opened n w).book calls)))
  pub too_low : (lowest : ℕ) → revision (run (opened n w).book calls) < lowest
      → load_call (front kept.size kept.buffer) lowest ≡ refuses RevisionLow

-- it is so after every list of calls from an accepted opening, those that 17 refused left out
abbrev pub CallHistories : Type 0
CallHistories = (n w : ℕ) (buffer : List ℕ) → (open_call n w buffer).answer.number ≡ 0 → (calls : List Call)
    → KeptAfter n w (stored_calls (opened_in n w buffer) calls) (kept_run (opened_in n w buffer) calls)

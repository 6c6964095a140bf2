-- The calls on a book: each loads it, acts, and stores it again if it may have changed.
use Rattle.std.specs.Prelude.{ℕ, cond, List, ltb, length, take, Result, Ok, Err, ⊤}
use Rattle.ring.specs.declared.refusals.Refusal.{Refusal}
use Rattle.ring.specs.Answers.{InNumbers, gives}
use Rattle.book.specs.declared.books.Book.{Book}
use Rattle.book.specs.Books.{opened, open_in_numbers}
use Rattle.bundles.specs.Previews.{previewed_all, preview_in_numbers}
use Rattle.book.specs.Orders.{shown_to, show_in_numbers}
use Rattle.book.specs.Holders.{held_for, holder_in_numbers}
use Rattle.book.specs.Revisions.{revision}
use Rattle.charges.specs.Charges.{charged, book_charged}
use Rattle.stored.specs.Storing.{store_in_numbers}
use Rattle.stored.specs.Loading.{loaded, load_in_numbers}
use Rattle.stored.specs.Converting.{convert_answer, after_convert, back_answer, after_back}
use Rattle.outcomes.specs.Outcomes.{Outcome, on_success}
use Rattle.outcomes.specs.Changes.{refusing, changing, grant_on, remove_on, confirm_on}
use Rattle.outcomes.specs.Entries.{halves, lines_of_entries}

-- the first `size` bytes of a buffer; of one that has fewer, none: load answers 18
abbrev pub front : ℕ → List ℕ → List ℕ
front size buffer = take (cond (ltb (length buffer) size) 0 size) buffer

-- 18, 19 or 20, or a change of the book that was loaded from the first `size` bytes, of whatever revision
abbrev pub loaded_then : List ℕ → ℕ → (Book → Outcome) → Outcome
loaded_then buffer size change =
    on_success (load_in_numbers (loaded 0 (front size buffer)).answer)
    (change (loaded 0 (front size buffer)).book)
    (refusing (load_in_numbers (loaded 0 (front size buffer)).answer) buffer)

-- open, store: the length
unfoldable pub open_call : ℕ → ℕ → List ℕ → Outcome
open_call n w buffer = changing (open_in_numbers (opened n w).answer) (opened n w).book buffer

-- load, grant, store: the serial, the length
unfoldable pub grant_call : List ℕ → ℕ → ℕ → ℕ → ℕ → ℕ → ℕ → Outcome
grant_call buffer size x y way colour crew = loaded_then buffer size (λ (b : Book). grant_on b x y way colour crew buffer)

-- load, remove, store: the length
unfoldable pub remove_call : List ℕ → ℕ → ℕ → Outcome
remove_call buffer size serial = loaded_then buffer size (λ (b : Book). remove_on b serial buffer)

-- load, confirm, store: the length
unfoldable pub confirm_call : List ℕ → ℕ → ℕ → Outcome
confirm_call buffer size serial = loaded_then buffer size (λ (b : Book). confirm_on b serial buffer)

-- 18, 19, 20 or 28, or the answer to a question to the book that was loaded under a lowest revision
abbrev pub asked_of : ℕ → List ℕ → (Book → InNumbers) → InNumbers
asked_of lowest bytes question =
    on_success (load_in_numbers (loaded lowest bytes).answer) (question (loaded lowest bytes).book)
    (load_in_numbers (loaded lowest bytes).answer)

-- load under a lowest revision: the revision
unfoldable pub load_call : List ℕ → ℕ → InNumbers
load_call bytes lowest = asked_of lowest bytes (λ (b : Book). gives (halves (revision b)))

-- load, show to a crew
unfoldable pub show_call : List ℕ → ℕ → ℕ → InNumbers
show_call bytes serial crew = asked_of 0 bytes (λ (b : Book). show_in_numbers (shown_to crew b serial))

-- load, ask for the holder, as far as a crew may know
unfoldable pub holder_call : List ℕ → ℕ → ℕ → ℕ → InNumbers
holder_call bytes link colour crew = asked_of 0 bytes (λ (b : Book). holder_in_numbers (held_for crew b link colour))

-- convert from the old form to the new one: the length
unfoldable pub convert_call : List ℕ → List ℕ → Outcome
convert_call bytes buffer = record { answer = store_in_numbers (convert_answer bytes buffer); buffer = after_convert bytes buffer }

-- convert from the new form back to the old one: the length
unfoldable pub convert_back_call : List ℕ → List ℕ → Outcome
convert_back_call bytes buffer = record { answer = store_in_numbers (back_answer bytes buffer); buffer = after_back bytes buffer }

-- load, preview: how many serials, the line and the number of its refusal or 65,535 and 0, the serials
unfoldable pub preview_call : List ℕ → List ℕ → InNumbers
preview_call bytes entries = asked_of 0 bytes (λ (b : Book). preview_in_numbers (previewed_all b (lines_of_entries entries)))

-- 18, 19 or 20, or the charge by the book that was loaded
abbrev pub charge_behind : Result ⊤ Refusal → Result ℕ Refusal → Result ℕ Refusal
charge_behind (Ok loaded) answer = answer
charge_behind (Err r) answer = Err r

-- load, charge for an order: the cents
unfoldable pub charge_call : List ℕ → ℕ → List ℕ → List ℕ → Result ℕ Refusal
charge_call bytes serial lengths rates = charge_behind (loaded 0 bytes).answer (charged (loaded 0 bytes).book serial lengths rates)

-- load, charge for the live orders together: the cents
unfoldable pub charge_all_call : List ℕ → List ℕ → List ℕ → Result ℕ Refusal
charge_all_call bytes lengths rates = charge_behind (loaded 0 bytes).answer (book_charged (loaded 0 bytes).book lengths rates)

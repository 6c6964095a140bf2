-- Outcomes of calls, from the answer of the load.
use Prim.Native.Nat.{ℕ, ◌≤◌, ◌<◌}
use mathlib.Core.Path.{◌≡◌, sym, ◌∙◌, ap, subst}
use mathlib.Core.Bool.{Bool, cond}
use mathlib.Core.List.{List}
use lib.ListN.{length, take}
use borrow.Author.Tests.{lt-ltb, le-ltb}
use Rattle.ring.specs.declared.refusals.Refusal.{Refusal}
use Rattle.ring.specs.Answers.{InNumbers, refuses}
use Rattle.book.specs.declared.books.Book.{Book}
use Rattle.book.specs.Books.{Valid, opened, open_in_numbers}
use Rattle.std.specs.Prelude.{Result, Ok, Err, ⊤}
use Rattle.stored.specs.Loading.{Loaded, loading_of, loaded, load_in_numbers}
use Rattle.stored.proofs.Promised.{loads_only_forms}
use Rattle.outcomes.specs.Outcomes.{Outcome, on_success}
use Rattle.outcomes.specs.Changes.{refusing, storing, changing}
use Rattle.outcomes.proofs.OutcomeLaws.{on_refusal, by_answer}
use Rattle.export.specs.BookCalls.{front, loaded_then, asked_of, open_call, charge_behind}

pub by_asking : (lowest : ℕ) (bytes : List ℕ) (f : Book → InNumbers) {l : Loaded} {a : Result ⊤ Refusal} → l ≡ loaded lowest bytes → l.answer ≡ a
    → on_success (load_in_numbers a) (f l.book) (load_in_numbers a) ≡ asked_of lowest bytes f
by_asking lowest bytes f =
    by_answer (λ (l : Loaded). l.answer) (λ (a : Result ⊤ Refusal) (l : Loaded). on_success (load_in_numbers a) (f l.book) (load_in_numbers a))

-- the same where the load refuses: the call ends with it
module _ (r : Refusal) where
  pub asking_refused : (lowest : ℕ) (bytes : List ℕ) (f : Book → InNumbers) {l : Loaded} → l ≡ loaded lowest bytes
      → l.answer ≡ Err r
      → refuses r ≡ asked_of lowest bytes f
  asking_refused lowest bytes f {l} e g = sym (on_refusal r (f l.book) (refuses r)) ∙ by_asking lowest bytes f e g

-- a book that was loaded is valid
pub loaded_valid : (bytes : List ℕ) {l : Result Book Refusal} {b : Book} → loading_of l ≡ loaded 0 bytes → l ≡ Ok b → Valid b
loaded_valid bytes {l} {b} e g =
    let same : loaded 0 bytes ≡ record { answer = Ok tt; book = b } = sym e ∙ ap loading_of g in
    subst (λ (x : Loaded). Valid x.book) same (loads_only_forms 0 bytes (ap (λ (x : Loaded). x.answer) same)).valid

-- the bytes that are loaded
module _ (size : ℕ) (buffer : List ℕ) where
  pub front_short : length buffer < size → take 0 buffer ≡ front size buffer
  front_short h = ap (λ (t : Bool). take (cond t 0 size) buffer) (sym (lt-ltb _ _ h))

  pub front_whole : size ≤ length buffer → take size buffer ≡ front size buffer
  front_whole h = ap (λ (t : Bool). take (cond t 0 size) buffer) (sym (le-ltb _ _ h))

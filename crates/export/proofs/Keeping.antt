-- A refused change leaves the buffer; a length past it is refused; a change leaves the changed book in it, or the book that was there, with
-- 17.
use Prim.Native.Nat.{ℕ, ◌≤◌}
use mathlib.Core.Path.{◌≡◌, refl, sym, ◌∙◌, ap, subst}
use mathlib.Core.Bool.{Bool, true, false, cond}
use mathlib.Core.List.{List, [], ◌∷◌, ◌++◌}
use native.Mathlib.Omega.{arith}
use lib.Dec.{eqb, ltb}
use lib.ListN.{length, drop, get_or, length-append}
use lib.Seq.{take_at}
use Rattle.ring.specs.declared.refusals.Refusal.{Refusal}
use Rattle.ring.specs.declared.refusals.Refusal.TheVariants.{BufferShort, MarkedConversion}
use Rattle.ring.specs.Answers.{InNumbers, gives, refuses}
use Rattle.book.specs.declared.books.Book.{Book}
use Rattle.book.specs.Books.{has_marked, Valid, opened, open_in_numbers}
use Rattle.book.specs.Grants.{granted, grant_in_numbers}
use Rattle.book.specs.Removals.{removed, remove_in_numbers}
use Rattle.book.specs.Confirmations.{confirmed, confirm_in_numbers}
use Rattle.stored.specs.declared.forms.Form.TheVariants.{Old, New}
use Rattle.std.specs.Prelude.{Result, Ok, Err, ⊤}
use Rattle.stored.specs.Forms.{stored_form}
use Rattle.stored.specs.Storing.{length_of, form_answer, after_form, store_answer, after_store, store_in_numbers}
use Rattle.stored.specs.Loading.{Loaded, length_wrong, loaded, loaded_old, load_in_numbers}
use Rattle.stored.specs.Converting.{convert_after, buffer_after, convert_answer, after_convert}
use Rattle.stored.specs.Converting.{back_after, buffer_after_back, back_answer, after_back}
use Rattle.stored.proofs.StoreLaws.{form_length}
use Rattle.stored.proofs.LoadLaws.{form_long, load_refused}
use Rattle.stored.proofs.Promised.{reads_back}
use Rattle.outcomes.specs.Outcomes.{Outcome, on_success}
use Rattle.outcomes.specs.Changes.{refusing, storing, changing, grant_on, remove_on, confirm_on}
use Rattle.export.specs.BookCalls.{front, loaded_then, asked_of, open_call}
use Rattle.export.specs.BookCalls.{grant_call, remove_call, confirm_call, convert_call, convert_back_call}
use Rattle.export.specs.Histories.{RefusedLeaves, LengthPast, Kept, kept_by, unstored}
use Rattle.outcomes.proofs.OutcomeLaws.{on_refusal, form_kept}
use Rattle.export.proofs.CallLaws.{front_short, front_whole, loaded_valid, by_asking}

-- an outcome that is no success has left the buffer
abbrev Leaves : List ℕ → Outcome → Type 0
Leaves buffer o = (o.answer.number ≡ 0 → ⊥) → o.buffer ≡ buffer

leaves_step : (answer : InNumbers) (buffer : List ℕ) (next : Outcome) → Leaves buffer next
    → Leaves buffer (on_success answer next (refusing answer buffer))
leaves_step answer buffer next h = go (eqb answer.number 0)
  where
    go : (t : Bool) → Leaves buffer (cond t next (refusing answer buffer))
    go true = h
    go false = λ k. refl

leaves_changing : (answer : InNumbers) (b : Book) (buffer : List ℕ) → Leaves buffer (changing answer b buffer)
leaves_changing answer b buffer =
    let stored = store_in_numbers (store_answer b buffer) in
    let whole : Outcome = record { answer = gives (answer.values ++ stored.values); buffer = after_store b buffer } in
    leaves_step answer buffer (storing answer.values b buffer) (leaves_step stored buffer whole (λ k. absurd (k refl)))

leaves_loaded : (buffer : List ℕ) (size : ℕ) (f : Book → Outcome) → ((b : Book) → Leaves buffer (f b))
    → Leaves buffer (loaded_then buffer size f)
leaves_loaded buffer size f h =
    let l = loaded 0 (front size buffer) in
    leaves_step (load_in_numbers l.answer) buffer (f l.book) (h l.book)

-- what a conversion comes to
abbrev written : Result ℕ Refusal → List ℕ → Outcome
written answer after = record { answer = store_in_numbers answer; buffer = after }

leaves_converted : (answer : Result ⊤ Refusal) (b : Book) (buffer : List ℕ)
    → Leaves buffer (written (convert_after answer b buffer) (buffer_after answer b buffer))
leaves_converted (Ok loaded) b buffer = form_kept New b buffer
leaves_converted (Err r) b buffer = λ k. refl

leaves_back : (answer : Result ⊤ Refusal) (b : Book) (buffer : List ℕ)
    → Leaves buffer (written (back_after answer b buffer) (buffer_after_back answer b buffer))
leaves_back (Ok loaded) b buffer = go (has_marked b)
  where
    go : (t : Bool) → Leaves buffer
        (written (cond t (Err MarkedConversion) (form_answer Old b buffer)) (cond t buffer (after_form Old b buffer)))
    go true = λ k. refl
    go false = form_kept Old b buffer
leaves_back (Err r) b buffer = λ k. refl

pub refused_leaves : RefusedLeaves
unfolding open_call grant_call remove_call confirm_call convert_call convert_back_call convert_answer after_convert back_answer after_back
refused_leaves = record {
  opening = λ n w buffer. leaves_changing (open_in_numbers (opened n w).answer) (opened n w).book buffer;
  granting =
      λ buffer size x y way colour crew.
      leaves_loaded buffer size (λ (b : Book). grant_on b x y way colour crew buffer)
      (λ b. leaves_changing (grant_in_numbers (granted b x y way colour crew).answer) (granted b x y way colour crew).book buffer);
  removing =
      λ buffer size serial.
      leaves_loaded buffer size (λ (b : Book). remove_on b serial buffer)
      (λ b. leaves_changing (remove_in_numbers (removed b serial).answer) (removed b serial).book buffer);
  confirming =
      λ buffer size serial.
      leaves_loaded buffer size (λ (b : Book). confirm_on b serial buffer)
      (λ b. leaves_changing (confirm_in_numbers (confirmed b serial).answer) (confirmed b serial).book buffer);
  converting = λ bytes buffer. leaves_converted (loaded_old bytes).answer (loaded_old bytes).book buffer;
  converting_back = λ bytes buffer. leaves_back (loaded 0 bytes).answer (loaded 0 bytes).book buffer;
}

pub length_past : LengthPast
unfolding length_wrong
length_past buffer size h =
    ap (λ (l : List ℕ). (loaded 0 l).answer) (sym (front_short size buffer h)) ∙ ap (λ (l : Loaded). l.answer) (load_refused 0 []
    (form_long New [] refl))

-- the first `size` bytes of the buffer load as this book
abbrev pub Holds : Kept → Book → Type 0
Holds kept b = loaded 0 (front kept.size kept.buffer) ≡ record { answer = Ok tt; book = b }

module _ (kept : Kept) (b : Book) (h : Holds kept b) where
  pub held_valid : Valid b
  held_valid = loaded_valid (front kept.size kept.buffer) {l = Ok b} (sym h) refl

  -- what a call comes to that loads it
  pub changed_held : (f : Book → Outcome) → loaded_then kept.buffer kept.size f ≡ f b
  changed_held f = ap (λ (l : Loaded).
      on_success (load_in_numbers l.answer) (f l.book) (refusing (load_in_numbers l.answer) kept.buffer)) h

-- what a question comes to, of bytes that load as a book
pub asked_loaded : (lowest : ℕ) (bytes : List ℕ) (b : Book) → loaded lowest bytes ≡ record { answer = Ok tt; book = b }
    → (f : Book → InNumbers) → asked_of lowest bytes f ≡ f b
asked_loaded lowest bytes b e f = sym (by_asking lowest bytes f (sym e) refl)

-- a stored form with other bytes behind it
front_form : (b : Book) (rest : List ℕ) → front (length_of New b) (stored_form New b ++ rest) ≡ stored_form New b
front_form b rest =
    let h : length_of New b ≤ length (stored_form New b ++ rest) = omega (arith, length-append (stored_form New b) rest, form_length New b) in
    sym (front_whole (length_of New b) (stored_form New b ++ rest) h) ∙ take_at (stored_form New b) rest (length_of New b) (form_length New b)

-- the book after a call: one that is not stored leaves the book that was there
abbrev pub book_after : Outcome → Book → Book → Book
book_after o b d = cond (unstored o.answer) b d

-- there is no room for a book, or it is stored whole
pub data Stores (values : List ℕ) (d : Book) (buffer : List ℕ) : Type 0 where
  no_room : storing values d buffer ≡ refusing (refuses BufferShort) buffer → Stores values d buffer
  whole : storing values d buffer
      ≡ record { answer = gives (values ++ (length_of New d ∷ [])); buffer = stored_form New d ++ drop (length_of New d) buffer }
      → Stores values d buffer

pub stores : (values : List ℕ) (d : Book) (buffer : List ℕ) → Stores values d buffer
unfolding form_answer after_form
stores values d buffer = go (ltb (length buffer) (length_of New d)) refl
  where
    go : (short : Bool) → ltb (length buffer) (length_of New d) ≡ short → Stores values d buffer
    go true e = no_room (rw e refl)
    go false e = whole (rw e refl)

-- a stored book is held
pub whole_holds : (values : List ℕ) (entry : ℕ) (d : Book) (kept : Kept) → Valid d
    → get_or (values ++ (length_of New d ∷ [])) entry 0 ≡ length_of New d
    → Holds (kept_by kept entry
    (record { answer = gives (values ++ (length_of New d ∷ [])); buffer = stored_form New d ++ drop (length_of New d) kept.buffer })) d
whole_holds values entry d kept v length-there =
    ap (λ (size : ℕ). loaded 0 (front size (stored_form New d ++ drop (length_of New d) kept.buffer))) length-there
    ∙ ap (loaded 0) (front_form d (drop (length_of New d) kept.buffer))
    ∙ reads_back d v 0 (omega arith)

-- a change that is stored, or for which the buffer has no room
pub storing_holds : (kept : Kept) (b : Book) → Holds kept b → (values : List ℕ) (entry : ℕ) (d : Book) → Valid d
    → get_or (values ++ (length_of New d ∷ [])) entry 0 ≡ length_of New d
    → Holds (kept_by kept entry (storing values d kept.buffer)) (book_after (storing values d kept.buffer) b d)
storing_holds kept b h values entry d v length-there = go (stores values d kept.buffer)
  where
    Held : Outcome → Type 0
    Held o = Holds (kept_by kept entry o) (book_after o b d)

    go : Stores values d kept.buffer → Held (storing values d kept.buffer)
    go (no_room e) = subst Held (sym e) h
    go (whole e) = subst Held (sym e) (whole_holds values entry d kept v length-there)

-- a change that is refused, which leaves the book
pub refusing_holds : (kept : Kept) (b : Book) → Holds kept b → (entry : ℕ) (r : Refusal) (next : Outcome) (d : Book) → d ≡ b
    → let o = on_success (refuses r) next (refusing (refuses r) kept.buffer) in Holds (kept_by kept entry o) (book_after o b d)
refusing_holds kept b h entry r next d e =
    subst (λ (o : Outcome). Holds (kept_by kept entry o) (book_after o b d)) (sym (on_refusal r next (refusing (refuses r) kept.buffer)))
    (subst (λ (k : ℕ). loaded 0 (front k kept.buffer)
    ≡ record { answer = Ok tt; book = book_after (refusing (refuses r) kept.buffer) b d })
    (sym (on_refusal r _ kept.size))
    (h ∙ ap (λ (x : Book). record { answer = Ok tt; book = x }) (sym (either (unstored (refuses r))))))
  where
    either : (t : Bool) → cond t b d ≡ b
    either true = refl
    either false = e

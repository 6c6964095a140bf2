-- The book in the buffer after a list of calls.
use Prim.Native.Nat.{ℕ, ◌+◌}
use mathlib.Core.Path.{◌≡◌, refl, sym, ◌∙◌, ap, subst}
use mathlib.Core.Bool.{Bool, true, false, cond}
use mathlib.Core.List.{List, [], ◌∷◌}
use native.Mathlib.Omega.{arith}
use borrow.Author.Tests.{eq-eqb}
use Rattle.ring.specs.declared.refusals.Refusal.{Refusal}
use Rattle.ring.specs.Refusals.{number_of}
use Rattle.ring.proofs.Cases.{impossible}
use Rattle.std.specs.Prelude.{Ok, Err}
use Rattle.ring.specs.Refusals.{Verdict}
use Rattle.ring.specs.declared.refusals.Refusal.TheVariants.{RevisionLow}
use Rattle.ring.specs.Answers.{gives, refuses}
use Rattle.ring.specs.Admission.{ring_verdict}
use Rattle.book.specs.declared.books.Book.{Book}
use Rattle.book.specs.Books.{Valid, book_of, open_unless, opened, open_in_numbers}
use Rattle.book.specs.Grants.{Granted, circuit_of, grant_verdict, grant_unless, granted, grant_in_numbers}
use Rattle.book.specs.Orders.{shown_to, show_in_numbers}
use Rattle.bundles.specs.Previews.{previewed_all, preview_in_numbers}
use Rattle.charges.specs.Charges.{charged, book_charged}
use Rattle.book.specs.Removals.{removed, remove_in_numbers}
use Rattle.book.specs.Confirmations.{confirmed, confirm_in_numbers}
use Rattle.book.specs.Holders.{held_for, holder_in_numbers}
use Rattle.book.specs.Revisions.{revision}
use Rattle.book.specs.History.{Call, Grant, Remove, Confirm, Show, Holder, after, run}
use Rattle.book.proofs.Opening.{opened_valid}
use Rattle.book.proofs.Outcomes.{removal_cases, confirmation_cases}
use Rattle.book.proofs.Validity.{removal_valid, confirmation_valid, keeps_valid}
use Rattle.stored.specs.declared.forms.Form.TheVariants.{New}
use Rattle.stored.specs.Forms.{stored_form}
use Rattle.stored.specs.Loading.{Loaded, loaded}
use Rattle.stored.specs.Histories.{StoredAfter}
use Rattle.stored.proofs.LoadLaws.{recent_low}
use Rattle.stored.proofs.Promised.{stored_loads, loads_only_forms}
use Rattle.stored.proofs.StoredHistories.{stored_histories}
use Rattle.outcomes.specs.Outcomes.{Outcome}
use Rattle.outcomes.specs.Changes.{refusing, storing, changing, grant_on, remove_on, confirm_on}
use Rattle.export.specs.BookCalls.{front, open_call, grant_call}
use Rattle.outcomes.specs.Entries.{lines_of_entries, halves}
use Rattle.export.specs.BookCalls.{remove_call, confirm_call, show_call, holder_call, preview_call, load_call}
use Rattle.export.specs.BookCalls.{charge_behind, charge_call, charge_all_call}
use Rattle.export.specs.Histories.{Kept, kept_by, answer_of, kept_after, kept_run, unstored, stored_calls, opened_in, CallHistories}
use Rattle.export.proofs.Keeping.{Holds, held_valid, changed_held, asked_loaded, book_after, Stores, no_room, whole, stores}
use Rattle.export.proofs.Keeping.{whole_holds, storing_holds, refusing_holds}
use Rattle.outcomes.proofs.OutcomeLaws.{on_refusal, refusal_number}
use Rattle.export.proofs.CallLaws.{asking_refused}

-- a change by its answer and its book
module _ (kept : Kept) (b : Book) (h : Holds kept b) where
  grant_on_holds : (x y way colour crew : ℕ)
      → let o = grant_on b x y way colour crew kept.buffer in
      Holds (kept_by kept 1 o) (book_after o b (granted b x y way colour crew).book)
  unfolding granted
  grant_on_holds x y way colour crew =
      go (grant_verdict b x y way colour crew) (keeps_valid.granting b (held_valid kept b h) x y way colour crew)
    where
      made : Verdict → Granted
      made v = grant_unless v b (circuit_of (b.grants + 1) x y way colour crew)

      go : (v : Verdict) → Valid (made v).book
          → let o = changing (grant_in_numbers (made v).answer) (made v).book kept.buffer in
          Holds (kept_by kept 1 o) (book_after o b (made v).book)
      go (Ok allowed) valid = storing_holds kept b h ((b.grants + 1) ∷ []) 1 (made (Ok allowed)).book valid refl
      go (Err r) valid = refusing_holds kept b h 1 r _ b refl

  remove_on_holds : (serial : ℕ) → let o = remove_on b serial kept.buffer in
      Holds (kept_by kept 0 o) (book_after o b (removed b serial).book)
  remove_on_holds serial =
      removal_cases b serial
      (λ d. let o = changing (remove_in_numbers d.answer) d.book kept.buffer in Holds (kept_by kept 0 o) (book_after o b d.book))
      (λ i l named live. storing_holds kept b h [] 0 _ (removal_valid b (held_valid kept b h) i l) refl)
      (λ r. refusing_holds kept b h 0 r _ b refl)

  confirm_on_holds : (serial : ℕ) → let o = confirm_on b serial kept.buffer in
      Holds (kept_by kept 0 o) (book_after o b (confirmed b serial).book)
  confirm_on_holds serial =
      confirmation_cases b serial
      (λ d. let o = changing (confirm_in_numbers d.answer) d.book kept.buffer in Holds (kept_by kept 0 o) (book_after o b d.book))
      (λ i l named pending. storing_holds kept b h [] 0 _ (confirmation_valid b (held_valid kept b h) i l) refl)
      (λ r. refusing_holds kept b h 0 r _ b refl)

  -- a question leaves the book as it is, whatever it is answered
  same : (t : Bool) → Holds kept (cond t b b)
  same true = h
  same false = h

  -- the book after one call
  step : (call : Call) → Holds (kept_after kept call) (cond (unstored (answer_of kept call)) b (after b call))
  unfolding grant_call remove_call confirm_call
  step (Grant x y way colour crew) =
      subst (λ (o : Outcome). Holds (kept_by kept 1 o) (book_after o b (granted b x y way colour crew).book))
      (sym (changed_held kept b h (λ (d : Book). grant_on d x y way colour crew kept.buffer)))
      (grant_on_holds x y way colour crew)
  step (Remove serial) =
      subst (λ (o : Outcome). Holds (kept_by kept 0 o) (book_after o b (removed b serial).book))
      (sym (changed_held kept b h (λ (d : Book). remove_on d serial kept.buffer)))
      (remove_on_holds serial)
  step (Confirm serial) =
      subst (λ (o : Outcome). Holds (kept_by kept 0 o) (book_after o b (confirmed b serial).book))
      (sym (changed_held kept b h (λ (d : Book). confirm_on d serial kept.buffer)))
      (confirm_on_holds serial)
  step (Show serial crew) = same (unstored (answer_of kept (Show serial crew)))
  step (Holder link colour crew) = same (unstored (answer_of kept (Holder link colour crew)))

-- the book after a list of calls
run_one : (b : Book) (calls : List Call) (call : Call) (t : Bool)
    → cond t (run b calls) (after (run b calls) call) ≡ run b (cond t calls (call ∷ calls))
run_one b calls call true = refl
run_one b calls call false = refl

pub run_holds : (kept : Kept) (b : Book) → Holds kept b → (calls : List Call) → Holds (kept_run kept calls) (run b (stored_calls kept calls))
run_holds kept b h [] = h
run_holds kept b h (call ∷ calls) =
    subst (Holds (kept_run kept (call ∷ calls))) (run_one b (stored_calls kept calls) call (unstored (answer_of (kept_run kept calls) call)))
    (step (kept_run kept calls) (run b (stored_calls kept calls)) (run_holds kept b h calls) call)

refusal_not_zero : {A : Type 0} (r : Refusal) → number_of r ≡ 0 → A
refusal_not_zero r e = impossible (sym (eq-eqb (number_of r) 0 e) ∙ refusal_number r)

-- an accepted opening
pub record OpensBook (n w : ℕ) (buffer : List ℕ) : Type 0 where
  pub allowed : ring_verdict n w ≡ Ok tt
  pub holds : Holds (opened_in n w buffer) (opened n w).book

pub opens_book : (n w : ℕ) (buffer : List ℕ) → (open_call n w buffer).answer.number ≡ 0 → OpensBook n w buffer
unfolding open_call opened
opens_book n w buffer = go (ring_verdict n w) refl
  where
    go : (v : Verdict) → ring_verdict n w ≡ v
        → (changing (open_in_numbers (open_unless v n w).answer) (open_unless v n w).book buffer).answer.number ≡ 0 → OpensBook n w buffer
    go (Ok allowed) e accepted = record { allowed = e; holds = rw e (first (stores [] (book_of n w 0 []) buffer) accepted) }
      where
        first : Stores [] (book_of n w 0 []) buffer → (storing [] (book_of n w 0 []) buffer).answer.number ≡ 0
            → Holds (kept_by (record { buffer = buffer; size = 0 }) 0 (storing [] (book_of n w 0 []) buffer)) (book_of n w 0 [])
        first (no_room s) accepted = absurd (omega (arith, ap (λ (o : Outcome). o.answer.number) s))
        first (whole s) accepted =
            subst (λ (o : Outcome). Holds (kept_by (record { buffer = buffer; size = 0 }) 0 o) (book_of n w 0 [])) (sym s)
            (whole_holds [] 0 (book_of n w 0 []) (record { buffer = buffer; size = 0 }) (opened_valid n w e) refl)
    go (Err r) e accepted =
        let o = on_refusal r (storing (refuses r).values (book_of 0 0 0 []) buffer) (refusing (refuses r) buffer) in
        refusal_not_zero r (sym (ap (λ (o : Outcome). o.answer.number) o) ∙ accepted)

pub call_histories : CallHistories
unfolding grant_call remove_call confirm_call show_call holder_call preview_call load_call charge_call charge_all_call
call_histories n w buffer accepted calls =
    let opens = opens_book n w buffer accepted in
    let kept = kept_run (opened_in n w buffer) calls in
    let b = run (opened n w).book (stored_calls (opened_in n w buffer) calls) in
    let bytes : List ℕ = front kept.size kept.buffer in
    let held : Holds kept b = run_holds (opened_in n w buffer) (opened n w).book opens.holds calls in
    let form : bytes ≡ stored_form New b =
    (loads_only_forms 0 bytes (ap (λ (l : Loaded). l.answer) held)).form ∙ ap (λ (l : Loaded). stored_form New l.book) held
    in
    let stored : StoredAfter n w (stored_calls (opened_in n w buffer) calls) bytes =
    subst (StoredAfter n w (stored_calls (opened_in n w buffer) calls)) (sym form)
    (stored_histories n w opens.allowed (stored_calls (opened_in n w buffer) calls))
    in
    record {
      stored = stored;
      grants = λ x y way colour crew.
          ap (λ (o : Outcome). o.answer) (changed_held kept b held (λ (d : Book). grant_on d x y way colour crew kept.buffer));
      removals = λ serial. ap (λ (o : Outcome). o.answer) (changed_held kept b held (λ (d : Book). remove_on d serial kept.buffer));
      confirmations = λ serial.
          ap (λ (o : Outcome). o.answer) (changed_held kept b held (λ (d : Book). confirm_on d serial kept.buffer));
      shows = λ serial crew. asked_loaded 0 bytes b held (λ (d : Book). show_in_numbers (shown_to crew d serial));
      holders = λ link colour crew. asked_loaded 0 bytes b held (λ (d : Book). holder_in_numbers (held_for crew d link colour));
      previews = λ entries. asked_loaded 0 bytes b held (λ (d : Book). preview_in_numbers (previewed_all d (lines_of_entries entries)));
      charges = λ serial lengths rates.
          ap (λ (l : Loaded). charge_behind l.answer (charged l.book serial lengths rates)) held;
      book_charges = λ lengths rates. ap (λ (l : Loaded). charge_behind l.answer (book_charged l.book lengths rates)) held;
      loads = λ lowest h. asked_loaded lowest bytes b (stored.loads lowest h) (λ (d : Book). gives (halves (revision d)));
      too_low = λ lowest h.
          let low = ap (loaded lowest) form ∙ stored_loads b stored.after.valid lowest ∙ sym (recent_low b lowest h) in
          sym (asking_refused RevisionLow lowest bytes (λ (d : Book). gives (halves (revision d))) (sym low) refl);
    }

-- The revision of a valid book goes up by one with each accepted grant and removal, and so it is their number in a history.
use Prim.Native.Nat.{ℕ, zero, suc, ◌+◌, ◌-◌, ◌*◌, ◌≤◌, ◌<◌}
use mathlib.Core.Path.{◌≡◌, refl, ◌∙◌, ap}
use mathlib.Core.Bool.{Bool, true, false, cond}
use mathlib.Core.List.{List, [], ◌∷◌, ◌++◌}
use native.Mathlib.Omega.{arith}
use native.Mathlib.Numerals.{add-one}
use lib.ListN.{length, take, drop, set}
use Rattle.std.specs.Prelude.{Ok, Err}
use Rattle.ring.proofs.Cases.{compare, less, not_less, impossible}
use Rattle.book.specs.declared.circuits.RecordState.TheVariants.{Live, Pending}
use Rattle.book.specs.declared.circuits.Circuit.{Circuit}
use Rattle.book.specs.declared.books.Book.{Book}
use Rattle.book.specs.Circuits.{live_state, is_live, as_pending, circuit}
use Rattle.book.specs.Books.{records_of, live_in, live_of, book_of, Valid, ValidCircuits, opened}
use Rattle.book.specs.Grants.{circuit_of, with_circuit}
use Rattle.book.specs.Removals.{with_record}
use Rattle.book.specs.Confirmations.{without, without_circuit}
use Rattle.book.specs.History.{run, history, AfterHistory}
use Rattle.book.specs.Revisions.{revision, RevisionRises, RevisionCounts}
use Rattle.book.proofs.Forms.{records_form, valid_records, with_form, record_form, without_form}
use Rattle.book.proofs.States.{live_snoc, live_set, live_without}
use Rattle.book.proofs.Outcomes.{grant_cases, removal_cases, confirmation_cases}
use Rattle.book.proofs.Verdicts.{GoodGrant}
use Rattle.book.proofs.EveryHistory.{every_history}

-- ---- a valid book has no more live circuits than grants, so that twice the grants less these is not cut off at 0

pub live_few : (cs : List Circuit) → length (live_in cs) ≤ length cs
live_few [] = omega arith
live_few (c ∷ cs) = go (is_live c) (live_few cs)
  where
    go : (t : Bool) → length (live_in cs) ≤ length cs → length (cond t (c ∷ live_in cs) (live_in cs)) ≤ length (c ∷ cs)
    go true h = omega arith
    go false h = omega arith

module _ (n w g : ℕ) (cs : List Circuit) (v : ValidCircuits n w g cs) where
  -- serials rise from 1, so that each is above its place
  serial_above : (i : ℕ) → i < length cs → i < (circuit cs i).serial
  serial_above zero h = (v.given 0 h).0
  serial_above (suc i) h = omega (arith, serial_above i (omega arith), v.rising i (suc i) (omega arith) h)

  records_few : length cs ≤ g
  records_few = elim (compare 0 (length cs)) [
    | less l q ↦
        let last : length cs - 1 < length cs = omega arith in
        omega (arith, serial_above (length cs - 1) last, (v.given (length cs - 1) last).1)
    | not_less l q ↦ omega arith
  ]

live_below : (b : Book) → Valid b → length (live_of b) ≤ b.grants
live_below b v = omega (arith, live_few (records_of b), records_few b.n b.w b.grants (records_of b) v.circuits)

-- ---- the calls

revision_form : (n w g : ℕ) (cs : List Circuit) (b : Book) → b ≡ book_of n w g cs → revision b ≡ 2 * g - length (live_in cs)
unfolding revision
revision_form n w g cs b e =
    ap revision e ∙ ap (λ (l : List Circuit). 2 * g - length (live_in l)) (records_form n w g cs)

module _ (b : Book) (v : Valid b) where
  abbrev cs : List Circuit
  cs = records_of b

  raised_by_grant : (x y way colour crew : ℕ) → GoodGrant b x y way colour crew
      → revision (with_circuit b (circuit_of (b.grants + 1) x y way colour crew)) ≡ revision b + 1
  unfolding revision
  raised_by_grant x y way colour crew g =
      let c : Circuit = circuit_of (b.grants + 1) x y way colour crew in
      let form = revision_form b.n b.w (b.grants + 1) (cs ++ (c ∷ [])) (with_circuit b c)
      (with_form b v c (omega (arith, valid_records b v, g.places))) in
      omega (arith, form, live_snoc cs c refl, live_below b v)

  raised_by_removal : (i : ℕ) → i < length cs → (circuit cs i).state ≡ Live
      → revision (with_record i (as_pending (circuit cs i)) b) ≡ revision b + 1
  unfolding revision
  raised_by_removal i l live =
      let c : Circuit = as_pending (circuit cs i) in
      let form = revision_form b.n b.w b.grants (set cs i c) (with_record i c b) (record_form b v i c l) in
      omega (arith, form, live_set cs i c l (ap live_state live) refl, live_below b v)

  kept_by_confirmation : (i : ℕ) → i < length cs → (circuit cs i).state ≡ Pending → revision (without_circuit i b) ≡ revision b
  unfolding revision
  kept_by_confirmation i l pending =
      revision_form b.n b.w b.grants (without i cs) (without_circuit i b) (without_form b v i l)
      ∙ ap (λ (j : ℕ). 2 * b.grants - length (live_in (take i cs ++ drop j cs))) (add-one i)
      ∙ ap (λ (m : ℕ). 2 * b.grants - m) (live_without cs i l (ap live_state pending))

pub revision_rises : RevisionRises
revision_rises b v = record {
  granting = λ x y way colour crew s. grant_cases b x y way colour crew
      (λ d. d.answer ≡ Ok s → revision d.book ≡ revision b + 1)
      (λ good e. raised_by_grant b v x y way colour crew good) (λ r e. impossible (cc));
  granting_refused = λ x y way colour crew q. grant_cases b x y way colour crew
      (λ d. d.answer ≡ Err q → revision d.book ≡ revision b) (λ good e. impossible (cc)) (λ r e. refl);
  removing = λ s. removal_cases b s (λ d. d.answer ≡ Ok tt → revision d.book ≡ revision b + 1)
      (λ i l serial live e. raised_by_removal b v i l live) (λ r e. impossible (cc));
  removing_refused = λ s q. removal_cases b s (λ d. d.answer ≡ Err q → revision d.book ≡ revision b)
      (λ i l serial live e. impossible (cc)) (λ r e. refl);
  confirming = λ s. confirmation_cases b s (λ d. revision d.book ≡ revision b)
      (λ i l serial pending. kept_by_confirmation b v i l pending) (λ r. refl);
}

-- ---- histories

pub revision_counts : RevisionCounts
unfolding revision
revision_counts n w e calls =
    let k : AfterHistory n w (history (opened n w).book calls) (run (opened n w).book calls) = every_history n w e calls in
    omega (arith, k.grants, k.count)

-- What a grant, a removal and a confirmation come to: one record is entered, changed or taken out, or nothing is.
use Prim.Native.Nat.{ℕ, ◌+◌, ◌<◌}
use mathlib.Core.Path.{◌≡◌, refl, ◌∙◌, ap, subst}
use mathlib.Core.Bool.{Bool, true, false, cond}
use lib.ListN.{length}
use Rattle.std.specs.Prelude.{Option, Some, None, Ok, Err}
use Rattle.ring.specs.declared.refusals.Refusal.{Refusal}
use Rattle.ring.specs.declared.refusals.Refusal.TheVariants.{SerialLive}
use Rattle.ring.specs.Refusals.{Verdict}
use Rattle.book.specs.declared.circuits.RecordState.TheVariants.{Live, Pending}
use Rattle.book.specs.declared.circuits.Circuit.{Circuit}
use Rattle.book.specs.declared.books.Book.{Book}
use Rattle.book.specs.Grants.{Granted}
use Rattle.book.specs.Removals.{Removed}
use Rattle.book.specs.Confirmations.{Confirmed}
use Rattle.book.specs.Circuits.{is_live, as_pending, circuit}
use Rattle.book.specs.Books.{records_of}
use Rattle.book.specs.Grants.{circuit_of, grant_verdict, with_circuit, grant_unless, granted}
use Rattle.book.specs.Orders.{lookup, live_found, missing}
use Rattle.book.specs.Removals.{with_record, remove_found, removed}
use Rattle.book.specs.Confirmations.{without_circuit, absent, confirm_record, confirm_found, confirmed}
use Rattle.book.proofs.States.{live_state_lem, pending_state}
use Rattle.book.proofs.Lookups.{found_place, found_there, found_serial}
use Rattle.book.proofs.Verdicts.{GoodGrant, good_grant}

-- there is no ground and the circuit is entered, or a refusal comes
pub grant_cases : (b : Book) (x y way colour crew : ℕ) (P : Granted → Type 0)
    → (GoodGrant b x y way colour crew
    → P (record { answer = Ok (b.grants + 1); book = with_circuit b (circuit_of (b.grants + 1) x y way colour crew) }))
    → ((r : Refusal) → P (record { answer = Err r; book = b })) → P (granted b x y way colour crew)
unfolding granted
grant_cases b x y way colour crew P accepted refused = go (grant_verdict b x y way colour crew) (good_grant b x y way colour crew)
  where
    go : (t : Verdict) → (t ≡ Ok tt → GoodGrant b x y way colour crew)
        → P (grant_unless t b (circuit_of (b.grants + 1) x y way colour crew))
    go (Ok allowed) good = accepted (good refl)
    go (Err r) good = refused r

module _ (b : Book) (s : ℕ) where
  -- the live record of the serial is pending, or a refusal comes
  pub removal_cases : (P : Removed → Type 0)
      → ((i : ℕ) → i < length (records_of b) → (circuit (records_of b) i).serial ≡ s → (circuit (records_of b) i).state ≡ Live
      → P (record { answer = Ok tt; book = with_record i (as_pending (circuit (records_of b) i)) b }))
      → ((r : Refusal) → P (record { answer = Err r; book = b })) → P (removed b s)
  unfolding removed
  removal_cases P accepted refused = go (lookup b s) refl
    where
      found : (i : ℕ) (c : Circuit) → lookup b s ≡ Some (i, c) → (t : Bool) → is_live c ≡ t
          → P (remove_found (cond t (Some (i, c)) None) (missing b s) b)
      found i c e true live =
          let there = found_there b s i c e in
          subst (λ (x : Circuit). P (record { answer = Ok tt; book = with_record i (as_pending x) b })) there
          (accepted i (found_place b s i c e) (found_serial b s i c e)
          (ap (λ (x : Circuit). x.state) there ∙ live_state_lem c.state live))
      found i c e false pending = refused (missing b s)

      go : (l : Option (ℕ × Circuit)) → lookup b s ≡ l → P (remove_found (live_found l) (missing b s) b)
      go (Some (i, c)) e = found i c e (is_live c) refl
      go None e = refused (missing b s)

  -- the pending record of the serial is gone, or a refusal comes
  pub confirmation_cases : (P : Confirmed → Type 0)
      → ((i : ℕ) → i < length (records_of b) → (circuit (records_of b) i).serial ≡ s → (circuit (records_of b) i).state ≡ Pending
      → P (record { answer = Ok tt; book = without_circuit i b }))
      → ((r : Refusal) → P (record { answer = Err r; book = b })) → P (confirmed b s)
  unfolding confirmed
  confirmation_cases P accepted refused = go (lookup b s) refl
    where
      found : (i : ℕ) (c : Circuit) → lookup b s ≡ Some (i, c) → (t : Bool) → is_live c ≡ t → P (confirm_record t i b)
      found i c e true live = refused SerialLive
      found i c e false pending =
          accepted i (found_place b s i c e) (found_serial b s i c e)
          (ap (λ (x : Circuit). x.state) (found_there b s i c e) ∙ pending_state c.state pending)

      go : (l : Option (ℕ × Circuit)) → lookup b s ≡ l → P (confirm_found l (absent b s) b)
      go (Some (i, c)) e = found i c e (is_live c) refl
      go None e = refused (absent b s)

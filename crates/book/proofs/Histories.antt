-- What every call keeps, and so every list of calls from open.
use Prim.Native.Nat.{ℕ, suc, ◌+◌, ◌<◌}
use mathlib.Core.Path.{◌≡◌, refl, sym, ◌∙◌, ap, subst}
use mathlib.Core.Bool.{Bool, false, cond}
use mathlib.Core.List.{List, [], ◌∷◌, ◌++◌}
use native.Mathlib.Omega.{arith}
use native.Mathlib.Numerals.{add-one}
use lib.Dec.{eqb}
use lib.ListN.{length, take, drop, set}
use borrow.Author.Tests.{eqb-false}
use Rattle.std.specs.Prelude.{Ok, Err}
use Rattle.ring.specs.Admission.{ring_verdict}
use Rattle.ring.proofs.Cases.{test, same, different}
use Rattle.book.specs.declared.circuits.RecordState.{RecordState}
use Rattle.book.specs.declared.circuits.RecordState.TheVariants.{Live, Pending}
use Rattle.book.specs.declared.circuits.Circuit.{Circuit}
use Rattle.book.specs.declared.books.Book.{Book}
use Rattle.book.specs.Circuits.{live_state, as_pending, circuit}
use Rattle.book.specs.Books.{records_of, live_in, live_of, book_of, Valid}
use Rattle.book.specs.Grants.{circuit_of, with_circuit}
use Rattle.book.specs.Orders.{shown_to}
use Rattle.book.specs.Removals.{with_record}
use Rattle.book.specs.Confirmations.{without, without_circuit}
use Rattle.book.specs.Holders.{held_for}
use Rattle.book.specs.History.{Call, Grant, Remove, Confirm, Show, Holder, Event, GrantAnswered, RemoveAnswered, ConfirmAnswered}
use Rattle.book.specs.History.{ShowAnswered, HolderAnswered, event, after, run, history, Gives, gave, removes, confirms, given}
use Rattle.book.specs.History.{removals, confirmations, down_from}
use Rattle.book.proofs.Opening.{opened_valid}
use Rattle.book.proofs.Forms.{records_form, valid_records, with_form, record_form, without_form}
use Rattle.book.proofs.Outcomes.{grant_cases, removal_cases, confirmation_cases}
use Rattle.book.proofs.Verdicts.{GoodGrant}
use Rattle.book.proofs.States.{as_granted, live_granted, live_snoc, live_set, live_without}
use Rattle.book.proofs.Validity.{with_valid, removal_valid, confirmation_valid}
use Rattle.book.proofs.Standings.{Standing, Unknown, IsLive, IsPending, Gone, stands_as, standing, standing_of}
use Rattle.book.proofs.StandingChanges.{unknown_next, stands_at, grant_stands, grant_others, removal_stands, removal_others}
use Rattle.book.proofs.StandingChanges.{confirmation_stands, confirmation_others}
use Rattle.book.proofs.Serials.{none_given}
use Rattle.book.proofs.Agreement.{Agrees, Passes, agrees_first, agrees_passed, agrees_granted, agrees_removed, agrees_confirmed}

-- what each call keeps
pub record Kept (n w : ℕ) (h : List Event) (b : Book) : Type 0 where
  pub valid : Valid b
  pub nodes : b.n ≡ n
  pub colours : b.w ≡ w
  pub grants : b.grants ≡ length (given h)
  pub orders : (s : ℕ) → Agrees h s (standing_of b s)
  pub count : length (live_of b) + removals h ≡ length (given h)
  pub records : b.records + confirmations h ≡ length (given h)
  pub serials : given h ≡ down_from (length (given h))

kept_open : (n w : ℕ) → ring_verdict n w ≡ Ok tt → Kept n w [] (book_of n w 0 [])
kept_open n w e = record {
  valid = opened_valid n w e;
  nodes = refl;
  colours = refl;
  grants = refl;
  orders = λ s. subst (Agrees [] s) (sym (ap (λ (t : Bool). cond t Unknown Gone) (none_given s))) (agrees_first s);
  count = refl;
  records = refl;
  serials = refl;
}

-- an event that names one order, r, with the standing t after it: the book d stands so, and as b for all others
one_order : (h : List Event) (b d : Book) (e : Event) (r : ℕ) (t : Standing) → ((s : ℕ) → Agrees h s (standing_of b s))
    → standing_of d r ≡ t → Agrees (e ∷ h) r t → ((s : ℕ) → (r ≡ s → ⊥) → standing_of d s ≡ standing_of b s)
    → ((s : ℕ) → eqb r s ≡ false → Passes e s) → (s : ℕ) → Agrees (e ∷ h) s (standing_of d s)
one_order h b d e r t k now agrees others passes s = elim (test r s) [
  | same p q ↦ subst (λ (x : ℕ). Agrees (e ∷ h) x (standing_of d x)) p (subst (Agrees (e ∷ h) r) (sym now) agrees)
  | different a ↦ subst (Agrees (e ∷ h) s) (sym (others s (eqb-false r s a.left)))
      (agrees_passed h s e (standing_of b s) (passes s a.left) (k s))
]

module _ (n w : ℕ) (h : List Event) (b : Book) (k : Kept n w h b) where
  abbrev cs : List Circuit
  cs = records_of b

  -- the standings in a book of this form
  stands_in : (g : ℕ) (ds : List Circuit) (d : Book) → d ≡ book_of b.n b.w g ds → (s : ℕ) → standing_of d s ≡ standing g ds s
  stands_in g ds d e s =
      ap (λ (x : Book). standing_of x s) e ∙ ap (λ (l : List Circuit). standing g l s) (records_form b.n b.w g ds)

  -- and its live circuits
  lives_in : (g : ℕ) (ds : List Circuit) (d : Book) → d ≡ book_of b.n b.w g ds → length (live_of d) ≡ length (live_in ds)
  lives_in g ds d e =
      ap (λ (x : Book). length (live_of x)) e ∙ ap (λ (l : List Circuit). length (live_in l)) (records_form b.n b.w g ds)

  -- an accepted grant
  kept_granted : (x y way colour crew : ℕ) → GoodGrant b x y way colour crew
      → Kept n w (GrantAnswered x y way colour crew (Ok (b.grants + 1)) ∷ h)
      (with_circuit b (circuit_of (b.grants + 1) x y way colour crew))
  kept_granted x y way colour crew g = record {
    valid = valid;
    nodes = k.nodes;
    colours = k.colours;
    grants = ap (λ (m : ℕ). m + 1) k.grants ∙ add-one (length (given h));
    orders = one_order h b d _ (b.grants + 1) (IsLive c) k.orders
        (form (b.grants + 1) ∙ grant_stands b.n b.w b.grants cs k.valid.circuits c refl)
        (agrees_granted h (b.grants + 1) x y way colour crew
        (subst (Agrees h (b.grants + 1)) (unknown_next b.grants cs) (k.orders (b.grants + 1))))
        (λ s q. form s ∙ grant_others b.n b.w b.grants cs k.valid.circuits c s refl q)
        (λ s q. record { no_grant = q; no_gift = λ z p. eqb-false (b.grants + 1) s q p.0; no_removal = refl; no_confirmation = refl });
    count = omega (arith, k.count, lives_in (b.grants + 1) (cs ++ (c ∷ [])) d with_c, live_snoc cs c refl);
    records = omega (arith, k.records);
    serials =
        ap (λ (m : ℕ). m ∷ given h) (ap (λ (m : ℕ). m + 1) k.grants ∙ add-one (length (given h)))
        ∙ ap (λ (l : List ℕ). suc (length (given h)) ∷ l) k.serials;
  }
    where
      c : Circuit
      c = circuit_of (b.grants + 1) x y way colour crew

      d : Book
      d = with_circuit b c

      valid : Valid d
      valid = with_valid b k.valid x y way colour crew g

      with_c : d ≡ book_of b.n b.w (b.grants + 1) (cs ++ (c ∷ []))
      with_c = with_form b k.valid c (omega (arith, valid_records b k.valid, g.places))

      form : (s : ℕ) → standing_of d s ≡ standing (b.grants + 1) (cs ++ (c ∷ [])) s
      form = stands_in (b.grants + 1) (cs ++ (c ∷ [])) d with_c

  -- an accepted removal
  kept_removed : (i : ℕ) → i < length cs → (circuit cs i).state ≡ Live
      → Kept n w (RemoveAnswered (circuit cs i).serial (Ok tt) ∷ h) (with_record i (as_pending (circuit cs i)) b)
  kept_removed i l live = record {
    valid = removal_valid b k.valid i l;
    nodes = k.nodes;
    colours = k.colours;
    grants = k.grants;
    orders = one_order h b d _ c.serial (IsPending (as_granted c)) k.orders
        (form c.serial ∙ removal_stands b.n b.w b.grants cs k.valid.circuits i l)
        (agrees_removed h c.serial (as_granted c) (subst (Agrees h c.serial) before (k.orders c.serial)))
        (λ s q. form s ∙ removal_others b.n b.w b.grants cs k.valid.circuits i s (as_pending c) refl q)
        (λ s q. record { no_grant = refl; no_gift = λ z p. p; no_removal = q; no_confirmation = refl });
    count = omega (arith, k.count, lives_in b.grants ds d with_d, live_set cs i (as_pending c) l (ap live_state live) refl);
    records = k.records;
    serials = k.serials;
  }
    where
      c : Circuit
      c = circuit cs i

      ds : List Circuit
      ds = set cs i (as_pending c)

      d : Book
      d = with_record i (as_pending c) b

      with_d : d ≡ book_of b.n b.w b.grants ds
      with_d = record_form b k.valid i (as_pending c) l

      form : (s : ℕ) → standing_of d s ≡ standing b.grants ds s
      form = stands_in b.grants ds d with_d

      before : standing_of b c.serial ≡ IsLive (as_granted c)
      before = stands_at b.n b.w b.grants cs k.valid.circuits i l ∙ ap (λ (t : RecordState). stands_as t c) live
          ∙ ap IsLive (sym (live_granted c live))

  -- an accepted confirmation
  kept_confirmed : (i : ℕ) → i < length cs → (circuit cs i).state ≡ Pending
      → Kept n w (ConfirmAnswered (circuit cs i).serial (Ok tt) ∷ h) (without_circuit i b)
  kept_confirmed i l pending = record {
    valid = confirmation_valid b k.valid i l;
    nodes = k.nodes;
    colours = k.colours;
    grants = k.grants;
    orders = one_order h b d _ c.serial Gone k.orders
        (form c.serial ∙ confirmation_stands b.n b.w b.grants cs k.valid.circuits i l)
        (agrees_confirmed h c.serial (as_granted c) (subst (Agrees h c.serial) before (k.orders c.serial)))
        (λ s q. form s ∙ confirmation_others b.n b.w b.grants cs k.valid.circuits i s l q)
        (λ s q. record { no_grant = refl; no_gift = λ z p. p; no_removal = refl; no_confirmation = q });
    count = omega (arith, k.count, lives_in b.grants (without i cs) d with_d, lives);
    records = omega (arith, k.records, valid_records b k.valid, l);
    serials = k.serials;
  }
    where
      c : Circuit
      c = circuit cs i

      d : Book
      d = without_circuit i b

      with_d : d ≡ book_of b.n b.w b.grants (without i cs)
      with_d = without_form b k.valid i l

      form : (s : ℕ) → standing_of d s ≡ standing b.grants (without i cs) s
      form = stands_in b.grants (without i cs) d with_d

      before : standing_of b c.serial ≡ IsPending (as_granted c)
      before = stands_at b.n b.w b.grants cs k.valid.circuits i l ∙ ap (λ (t : RecordState). stands_as t c) pending

      lives : length (live_in (without i cs)) ≡ length (live_in cs)
      lives = ap (λ (j : ℕ). length (live_in (take i cs ++ drop j cs))) (add-one i) ∙ live_without cs i l (ap live_state pending)

  -- a call that changes nothing
  kept_same : (e : Event) → given (e ∷ h) ≡ given h → removals (e ∷ h) ≡ removals h → confirmations (e ∷ h) ≡ confirmations h
      → ((s : ℕ) → Passes e s) → Kept n w (e ∷ h) b
  kept_same e g r c p = record {
    valid = k.valid;
    nodes = k.nodes;
    colours = k.colours;
    grants = k.grants ∙ ap length (sym g);
    orders = λ s. agrees_passed h s e (standing_of b s) (p s) (k.orders s);
    count = ap (λ (m : ℕ). length (live_of b) + m) r ∙ k.count ∙ ap length (sym g);
    records = ap (λ (m : ℕ). b.records + m) c ∙ k.records ∙ ap length (sym g);
    serials = g ∙ k.serials ∙ ap (λ (ds : List ℕ). down_from (length ds)) (sym g);
  }

nothing : (e : Event) (s : ℕ) → gave e s ≡ false → removes e s ≡ false → confirms e s ≡ false → ((c : Circuit) → Gives e s c → ⊥)
    → Passes e s
nothing e s g r c f = record { no_grant = g; no_gift = f; no_removal = r; no_confirmation = c }

kept_after_lem : (n w : ℕ) (h : List Event) (b : Book) → Kept n w h b → (call : Call) → Kept n w (event b call ∷ h) (after b call)
kept_after_lem n w h b k (Grant x y way colour crew) =
    grant_cases b x y way colour crew (λ d. Kept n w (GrantAnswered x y way colour crew d.answer ∷ h) d.book)
    (kept_granted n w h b k x y way colour crew)
    (λ r. kept_same n w h b k (GrantAnswered x y way colour crew (Err r)) refl refl refl
    (λ t. nothing _ t refl refl refl (λ c p. p)))
kept_after_lem n w h b k (Remove s) =
    removal_cases b s (λ d. Kept n w (RemoveAnswered s d.answer ∷ h) d.book)
    (λ i l serial live.
    subst (λ (r : ℕ). Kept n w (RemoveAnswered r (Ok tt) ∷ h) (with_record i (as_pending (circuit (records_of b) i)) b)) serial
    (kept_removed n w h b k i l live))
    (λ r. kept_same n w h b k (RemoveAnswered s (Err r)) refl refl refl (λ t. nothing _ t refl refl refl (λ c p. p)))
kept_after_lem n w h b k (Confirm s) =
    confirmation_cases b s (λ d. Kept n w (ConfirmAnswered s d.answer ∷ h) d.book)
    (λ i l serial pending.
    subst (λ (r : ℕ). Kept n w (ConfirmAnswered r (Ok tt) ∷ h) (without_circuit i b)) serial
    (kept_confirmed n w h b k i l pending))
    (λ r. kept_same n w h b k (ConfirmAnswered s (Err r)) refl refl refl (λ t. nothing _ t refl refl refl (λ c p. p)))
kept_after_lem n w h b k (Show s crew) =
    kept_same n w h b k (ShowAnswered s crew (shown_to crew b s)) refl refl refl (λ t. nothing _ t refl refl refl (λ c p. p))
kept_after_lem n w h b k (Holder link colour crew) =
    kept_same n w h b k (HolderAnswered link colour crew (held_for crew b link colour)) refl refl refl
    (λ t. nothing _ t refl refl refl (λ c p. p))

pub kept_run : (n w : ℕ) → ring_verdict n w ≡ Ok tt → (calls : List Call)
    → Kept n w (history (book_of n w 0 []) calls) (run (book_of n w 0 []) calls)
kept_run n w e [] = kept_open n w e
kept_run n w e (call ∷ calls) = kept_after_lem n w (history (book_of n w 0 []) calls) (run (book_of n w 0 []) calls) (kept_run n w e calls) call

-- Demand 2 of the book: what is so after every list of calls from open.
use Prim.Native.Nat.{ℕ, ◌<◌}
use mathlib.Core.Path.{◌≡◌, refl, sym, ◌∙◌, ap, subst}
use mathlib.Core.Bool.{Bool, true}
use mathlib.Core.List.{List, []}
use mathlib.Core.Logic.{inl, inr, ◌↔◌, ⊎_elim}
use native.Mathlib.Omega.{arith}
use lib.Dec.{eqb}
use lib.ListN.{length, set}
use borrow.Author.Tests.{eq-eqb}
use Rattle.std.specs.Prelude.{Result, Ok, ⊤}
use Rattle.ring.specs.declared.refusals.Refusal.{Refusal}
use Rattle.ring.specs.Matchings.{NoTwice}
use Rattle.ring.specs.Ways.{uses}
use Rattle.ring.proofs.Cases.{impossible}
use Rattle.book.specs.declared.circuits.RecordState.{RecordState}
use Rattle.book.specs.declared.circuits.RecordState.TheVariants as state
use Rattle.book.specs.declared.circuits.Circuit.{Circuit}
use Rattle.book.specs.declared.books.Book.{Book}
use Rattle.book.specs.declared.holders.Holder.{Holder}
use Rattle.book.specs.declared.holders.Holder.TheVariants as holder
use Rattle.book.specs.Circuits.{as_pending, desk, circuit, ends_of, holds}
use Rattle.book.specs.Books.{records_of, book_of, Valid}
use Rattle.book.specs.Removals.{with_record, removed}
use Rattle.book.specs.Confirmations.{without_circuit, confirmed}
use Rattle.book.specs.Holders.{holder_in, holder_verdict, holder_unless, held_by}
use Rattle.book.specs.History.{Event, run, history, Pending, given, Holding, AfterHistory, EveryHistory}
use Rattle.book.proofs.Opening.{opened_book}
use Rattle.book.proofs.Forms.{records_form, record_form}
use Rattle.book.proofs.ConflictLaws.{true_and}
use Rattle.book.proofs.Outcomes.{removal_cases, confirmation_cases}
use Rattle.book.proofs.States.{as_granted, pending_alike}
use Rattle.book.proofs.Standings.{Standing, IsPending, stands_as, standing_of, confirm_by, shown_by, removed_by, confirmed_by}
use Rattle.book.proofs.StandingChanges.{as_live, as_pending_lem, StandsAt, standing_place, stands_at}
use Rattle.book.proofs.Holding.{HolderAt, held_at, at_held, held_in_range, free, held, free_or_held, alike_holder, gone_free}
use Rattle.book.proofs.Serials.{down_once}
use Rattle.book.proofs.Agreement.{show_live, show_unknown, show_removed, remove_unknown, remove_removed, confirm_unknown}
use Rattle.book.proofs.Agreement.{confirm_live, confirm_confirmed}
use Rattle.book.proofs.Histories.{Kept, kept_run}

-- ---- held colours

module _ (n w : ℕ) (h : List Event) (b : Book) (k : Kept n w h b) (link colour : ℕ) (hl : link < n) (hc : colour < w) where
  hl' : link < b.n
  hl' = omega (arith, k.nodes)

  hc' : colour < b.w
  hc' = omega (arith, k.colours)

  -- a record that holds it is an order that stands
  holder_stands : (s : ℕ) → HolderAt (records_of b) link colour s → Holding h link colour s
  unfolding holds
  holder_stands s a = go c.state stands
    where
      c : Circuit
      c = circuit (records_of b) a.place

      stands : standing_of b s ≡ stands_as c.state c
      stands = ap (standing_of b) (sym a.serial)
          ∙ stands_at b.n b.w b.grants (records_of b) k.valid.circuits a.place a.below

      go : (t : RecordState) → standing_of b s ≡ stands_as t c → Holding h link colour s
      go state.Live e = record { order = c; stands = inl (((k.orders s).lives c).0 e); holding = a.holding }
      go state.Pending e = record { order = as_granted c; stands = inr (((k.orders s).pends (as_granted c)).0 e); holding = a.holding }

  -- and back
  stands_holder : (s : ℕ) → Holding h link colour s → HolderAt (records_of b) link colour s
  unfolding holds
  stands_holder s g =
      let at : StandsAt (records_of b) s g.order = standing_place b s g.order
      (⊎_elim (λ p. as_live (((k.orders s).lives g.order).1 p)) (λ p. as_pending_lem (((k.orders s).pends g.order).1 p)) g.stands) in
      record {
        place = at.place;
        below = at.below;
        serial = at.serial;
        holding = ap (λ (c : Circuit). holds c link colour) at.there ∙ g.holding;
      }

  pub held_by_lem : (s : ℕ) → ((held_by b link colour ≡ Ok (holder.HeldBy s)) ↔ Holding h link colour s)
  held_by_lem s = (
    λ e. holder_stands s (held_at b k.valid link colour hl' hc' s e),
    λ g. at_held b k.valid link colour hl' hc' s (stands_holder s g),
  )

  pub held_free : ((held_by b link colour ≡ Ok holder.Free) ↔ ((s : ℕ) → Holding h link colour s → ⊥))
  held_free = (to, from)
    where
      to : held_by b link colour ≡ Ok holder.Free → (s : ℕ) → Holding h link colour s → ⊥
      to e s g = let q : held_by b link colour ≡ Ok (holder.HeldBy s) = (held_by_lem s).1 g in impossible (cc)

      from : ((s : ℕ) → Holding h link colour s → ⊥) → held_by b link colour ≡ Ok holder.Free
      from f =
          let range = held_in_range b link colour hl' hc' in
          elim (free_or_held (records_of b) link colour) [
            | free e ↦ range ∙ ap Ok e
            | held s e ↦ absurd (f s ((held_by_lem s).0 (range ∙ ap Ok e)))
          ]

-- ---- a removal frees none

pending_keeps : (b : Book) → Valid b → (i : ℕ) → i < length (records_of b) → (link colour : ℕ)
    → held_by (with_record i (as_pending (circuit (records_of b) i)) b) link colour ≡ held_by b link colour
unfolding held_by holder_verdict
pending_keeps b v i l link colour =
    let ds : List Circuit = set (records_of b) i (as_pending (circuit (records_of b) i)) in
    ap (λ (a : Holder). holder_unless (holder_verdict b link colour) (Ok a))
    (ap (λ (d : Book). holder_in desk (records_of d) link colour) (record_form b v i (as_pending (circuit (records_of b) i)) l)
    ∙ ap (λ (cs : List Circuit). holder_in desk cs link colour) (records_form b.n b.w b.grants ds)
    ∙ alike_holder (records_of b) ds (pending_alike (records_of b) i) link colour)

keeps : (b : Book) → Valid b → (s link colour : ℕ) → held_by (removed b s).book link colour ≡ held_by b link colour
keeps b v s link colour =
    removal_cases b s (λ d. held_by d.book link colour ≡ held_by b link colour)
    (λ i l serial live. pending_keeps b v i l link colour) (λ r. refl)

-- ---- a confirmation frees every link of the circuit's way

frees : (n w : ℕ) (h : List Event) (b : Book) → Kept n w h b → (s : ℕ) (c : Circuit) → Pending h s c → (link : ℕ) → link < n
    → uses c.way (ends_of c) link ≡ true → held_by (confirmed b s).book link c.colour ≡ Ok holder.Free
unfolding holds
frees n w h b k s c p link l u =
    confirmation_cases b s (λ d. d.answer ≡ Ok tt → held_by d.book link c.colour ≡ Ok holder.Free) gone
    (λ r e. impossible (cc)) (confirmed_by b s ∙ ap confirm_by stands)
  where
    stands : standing_of b s ≡ IsPending c
    stands = ((k.orders s).pends c).1 p

    gone : (i : ℕ) → i < length (records_of b) → (circuit (records_of b) i).serial ≡ s → (circuit (records_of b) i).state ≡ state.Pending
        → ◌≡◌ {A = Result ⊤ Refusal} (Ok tt) (Ok tt) → held_by (without_circuit i b) link c.colour ≡ Ok holder.Free
    gone i place serial pending e =
        let d : Circuit = circuit (records_of b) i in
        let same : IsPending (as_granted d) ≡ IsPending c =
        ap (λ (t : RecordState). stands_as t d) (sym pending)
        ∙ sym (stands_at b.n b.w b.grants (records_of b) k.valid.circuits i place) ∙ ap (standing_of b) serial ∙ stands in
        let as_it_was : as_granted d ≡ c = cc same in
        let colour : d.colour ≡ c.colour = ap (λ (x : Circuit). x.colour) as_it_was in
        let holding : holds d link c.colour ≡ true =
        ap (λ (x : Circuit). holds x link c.colour) as_it_was
        ∙ true_and (eqb c.colour c.colour) (uses c.way (ends_of c) link) (eq-eqb c.colour c.colour refl) u in
        gone_free b k.valid link c.colour (omega (arith, k.nodes))
        (omega (arith, k.valid.circuits.colours i place)) i place holding

-- ---- one equivalence after the other

both_ways : {P Q R : Type 0} → (P ↔ Q) → (Q ↔ R) → (P ↔ R)
both_ways f g = (λ p. g.0 (f.0 p), λ r. f.1 (g.1 r))

-- an answer by the standing, which is told by the history
answered : {A : Type 0} {x y a : A} → x ≡ y → ((x ≡ a) ↔ (y ≡ a))
answered e = (λ p. sym e ∙ p, λ p. e ∙ p)

told : {x y a : Bool} → x ≡ y → ((y ≡ a) ↔ (x ≡ a))
told e = (λ p. e ∙ p, λ p. sym e ∙ p)

told_both : {x y a u v c : Bool} → x ≡ y → u ≡ v → (((y ≡ a) × (v ≡ c)) ↔ ((x ≡ a) × (u ≡ c)))
told_both e f = (λ p. (e ∙ p.0, f ∙ p.1), λ p. (sym e ∙ p.0, sym f ∙ p.1))

after_history : (n w : ℕ) (h : List Event) (b : Book) → Kept n w h b → AfterHistory n w h b
after_history n w h b k =
    let t : ℕ → Standing = standing_of b in
    record {
      valid = k.valid;
      nodes = k.nodes;
      colours = k.colours;
      grants = k.grants;
      shows = λ s c. both_ways (answered (shown_by b s)) (both_ways (show_live (t s) c) ((k.orders s).lives c));
      unknown = λ s. both_ways (answered (shown_by b s)) (both_ways (show_unknown (t s)) (told (k.orders s).given));
      unknown_removal = λ s. both_ways (answered (removed_by b s)) (both_ways (remove_unknown (t s)) (told (k.orders s).given));
      unknown_confirmation = λ s. both_ways (answered (confirmed_by b s)) (both_ways (confirm_unknown (t s)) (told (k.orders s).given));
      gone = λ s. both_ways (answered (shown_by b s))
          (both_ways (show_removed (t s)) (told_both (k.orders s).given (k.orders s).removed));
      gone_removal = λ s. both_ways (answered (removed_by b s))
          (both_ways (remove_removed (t s)) (told_both (k.orders s).given (k.orders s).removed));
      still_live = λ s. both_ways (answered (confirmed_by b s))
          (both_ways (confirm_live (t s)) (told_both (k.orders s).given (k.orders s).removed));
      pulled = λ s. both_ways (answered (confirmed_by b s)) (both_ways (confirm_confirmed (t s)) (told (k.orders s).confirmed));
      held = λ link colour hl hc. held_by_lem n w h b k link colour hl hc;
      free = λ link colour hl hc. held_free n w h b k link colour hl hc;
      keeps = keeps b k.valid;
      frees = λ s c p. frees n w h b k s c p;
      count = k.count;
      records = k.records;
      serials = k.serials;
      once = subst NoTwice (sym k.serials) (down_once (length (given h)));
    }

pub every_history : EveryHistory
every_history n w e calls =
    subst (λ (b : Book). AfterHistory n w (history b calls) (run b calls)) (sym (opened_book n w e))
    (after_history n w (history (book_of n w 0 []) calls) (run (book_of n w 0 []) calls) (kept_run n w e calls))

-- What the crews read: the desk as before, another crew by its own orders and by what is held.
use Prim.Native.Nat.{ℕ, zero, suc, ◌+◌, ◌<◌}
use mathlib.Core.Path.{◌≡◌, refl, sym, ◌∙◌, ap}
use mathlib.Core.Bool.{Bool, true, false, cond, ◌&&◌, ◌||◌}
use mathlib.Core.List.{List, [], ◌∷◌}
use native.Mathlib.Omega.{arith}
use lib.Dec.{eqb, leb}
use lib.ListN.{length}
use borrow.Author.Tests.{eqb-true, ne_eqb, leb-false}
use Rattle.std.specs.Prelude.{Option, Some, None, Ok, Err}
use Rattle.ring.specs.declared.refusals.Refusal.{Refusal}
use Rattle.ring.specs.declared.refusals.Refusal.TheVariants.{SerialNeverGiven, LinkNumber, ColourNumber}
use Rattle.ring.specs.Refusals.{Verdict, refuse_if, or_else}
use Rattle.ring.proofs.Cases.{impossible}
use Rattle.ring.proofs.AdmissionLaws.{refuse_allowed, both_allowed}
use Rattle.book.specs.declared.circuits.Circuit.{Circuit}
use Rattle.book.specs.declared.books.Book.{Book}
use Rattle.book.specs.declared.holders.Holder.{Holder}
use Rattle.book.specs.declared.holders.Holder.TheVariants as holder
use Rattle.book.specs.Circuits.{is_live, desk, circuit, some_circuit, holds}
use Rattle.book.specs.Books.{records_of, Valid}
use Rattle.book.specs.Crews.{crew_verdict, is_own, orders_in}
use Rattle.book.specs.Grants.{held_in}
use Rattle.book.specs.Orders.{never_given, lookup_in, lookup, live_found, missing, show_found, shown, own_found, own_shown, show_unless}
use Rattle.book.specs.Orders.{shown_to}
use Rattle.book.specs.Holders.{told_to, holder_in, holder_verdict, holder_unless, held_by, held_for}
use Rattle.book.specs.Isolation.{DeskReads, AlikeFor, Isolation}
use Rattle.book.proofs.Holding.{none_holds}
use Rattle.book.proofs.StandingChanges.{given_not}

pub desk_reads : (b : Book) → DeskReads b
unfolding shown_to held_for held_by crew_verdict
desk_reads b = record { orders = λ serial. refl; holders = λ link colour. refl }

-- a crew is shown no circuit that the desk is not shown: its own must be live
pub shown_desk : (crew : ℕ) (b : Book) (s : ℕ) (c : Circuit) → shown_to crew b s ≡ Ok c → shown b s ≡ Ok c
unfolding shown_to shown own_shown
shown_desk crew b s c = verdicts (crew_verdict crew)
  where
    lives : (i : ℕ) (d : Circuit) (t u : Bool) → show_found (cond (t && u) (Some (i, d)) None) SerialNeverGiven ≡ Ok c
        → show_found (cond t (Some (i, d)) None) (missing b s) ≡ Ok c
    lives i d true true e = e
    lives i d true false e = impossible (cc)
    lives i d false u e = impossible (cc)

    own : (l : Option (ℕ × Circuit)) → show_found (own_found crew l) SerialNeverGiven ≡ Ok c
        → show_found (live_found l) (missing b s) ≡ Ok c
    own (Some (i, d)) e = lives i d (is_live d) (eqb d.crew crew) e
    own None e = impossible (cc)

    read : (t : Bool) → cond t (shown b s) (own_shown crew b s) ≡ Ok c → shown b s ≡ Ok c
    read true e = e
    read false e = own (lookup b s) e

    verdicts : (v : Verdict) → show_unless v (cond (eqb crew desk) (shown b s) (own_shown crew b s)) ≡ Ok c
        → shown b s ≡ Ok c
    verdicts (Ok allowed) e = read (eqb crew desk) e
    verdicts (Err r) e = impossible (cc)

-- ---- a crew's orders stand for the records

lookup_none : (cs : List Circuit) (j s : ℕ) → ((i : ℕ) → i < length cs → eqb (circuit cs i).serial s ≡ false) → lookup_in j cs s ≡ None
unfolding lookup_in
lookup_none [] j s f = refl
lookup_none (c ∷ cs) j s f =
    ap (λ (t : Bool). cond t (Some (j, c)) (lookup_in (j + 1) cs s)) (f 0 (omega arith))
    ∙ lookup_none cs (j + 1) s (λ i h. f (suc i) (omega arith))

module _ (crew : ℕ) where
  -- what is so of every record is so of every order of the crew
  orders_all : (P : Circuit → Type 0) (cs : List Circuit) → ((i : ℕ) → i < length cs → P (circuit cs i)) → (i : ℕ)
      → i < length (orders_in crew cs) → P (circuit (orders_in crew cs) i)
  orders_all P [] f i h = absurd (omega arith)
  orders_all P (c ∷ cs) f i h = go (is_own crew c) (orders_all P cs (λ j k. f (suc j) (omega arith))) i h
    where
      go : (t : Bool) → ((i : ℕ) → i < length (orders_in crew cs) → P (circuit (orders_in crew cs) i)) → (i : ℕ)
          → i < length (cond t (c ∷ orders_in crew cs) (orders_in crew cs)) → P (circuit (cond t (c ∷ orders_in crew cs) (orders_in crew cs)) i)
      go true later zero k = f 0 (omega arith)
      go true later (suc j) k = later j (omega arith)
      go false later j k = later j k

  none_own : (cs : List Circuit) (j s : ℕ) → ((i : ℕ) → i < length cs → eqb (circuit cs i).serial s ≡ false)
      → lookup_in j (orders_in crew cs) s ≡ None
  none_own cs j s f = lookup_none (orders_in crew cs) j s (orders_all (λ c. eqb c.serial s ≡ false) cs f)

  -- serials rise, so that behind a record that is not the crew's own there is none of its serial
  own_lookup : (cs : List Circuit) (i j s : ℕ) (r : Refusal)
      → ((k l : ℕ) → k < l → l < length cs → (circuit cs k).serial < (circuit cs l).serial)
      → show_found (own_found crew (lookup_in i cs s)) r ≡ show_found (lookup_in j (orders_in crew cs) s) r
  unfolding lookup_in
  own_lookup [] i j s r rising = refl
  own_lookup (c ∷ cs) i j s r rising =
      go (eqb c.serial s) refl (is_own crew c) refl
      (λ m. own_lookup cs (i + 1) m s r (λ k l h below. rising (suc k) (suc l) (omega arith) (omega arith)))
    where
      go : (t : Bool) → eqb c.serial s ≡ t → (u : Bool) → is_own crew c ≡ u
          → ((m : ℕ) → show_found (own_found crew (lookup_in (i + 1) cs s)) r ≡ show_found (lookup_in m (orders_in crew cs) s) r)
          → show_found (own_found crew (cond t (Some (i, c)) (lookup_in (i + 1) cs s))) r
          ≡ show_found (lookup_in j (cond u (c ∷ orders_in crew cs) (orders_in crew cs)) s) r
      go true p true q later =
          ap (λ (v : Bool). show_found (cond v (Some (i, c)) None) r) q
          ∙ sym (ap (λ (v : Bool). show_found (cond v (Some (j, c)) (lookup_in (j + 1) (orders_in crew cs) s)) r) p)
      go true p false q later =
          ap (λ (v : Bool). show_found (cond v (Some (i, c)) None) r) q
          ∙ sym (ap (λ (l : Option (ℕ × Circuit)). show_found l r) (none_own cs j s (λ k h.
          let e = eqb-true c.serial s p in
          let g = rising 0 (suc k) (omega arith) (omega arith) in
          ne_eqb (circuit cs k).serial s (λ q. omega arith))))
      go false p true q later =
          later (j + 1) ∙ sym (ap (λ (v : Bool). show_found (cond v (Some (j, c)) (lookup_in (j + 1) (orders_in crew cs) s)) r) p)
      go false p false q later = later j

  -- the crew's order that holds, or else whether anything does
  abbrev learnt : Holder → Bool → Holder
  learnt holder.Free held = cond held holder.Held holder.Free
  learnt holder.Held held = holder.Held
  learnt (holder.HeldBy s) held = holder.HeldBy s

  -- one record at the most holds a colour on a link, so that behind one that is not the crew's own no order of it does
  own_holder : (cs : List Circuit) (link colour : ℕ) → eqb crew desk ≡ false
      → ((i j : ℕ) → i < j → j < length cs → holds (circuit cs i) link colour ≡ true → holds (circuit cs j) link colour ≡ false)
      → holder_in crew cs link colour ≡ learnt (holder_in desk (orders_in crew cs) link colour) (held_in cs link colour)
  unfolding holder_in held_in some_circuit
  own_holder [] link colour other apart = refl
  own_holder (c ∷ cs) link colour other apart =
      go (holds c link colour) refl (is_own crew c) refl
      (own_holder cs link colour other (λ i j h below. apart (suc i) (suc j) (omega arith) (omega arith)))
    where
      told : (u : Bool) → is_own crew c ≡ u → told_to crew c ≡ cond u (holder.HeldBy c.serial) holder.Held
      told u q =
          ap (λ (v : Bool). cond (v || is_own crew c) (holder.HeldBy c.serial) holder.Held) other
          ∙ ap (λ (v : Bool). cond v (holder.HeldBy c.serial) holder.Held) q

      go : (t : Bool) → holds c link colour ≡ t → (u : Bool) → is_own crew c ≡ u
          → holder_in crew cs link colour ≡ learnt (holder_in desk (orders_in crew cs) link colour) (held_in cs link colour)
          → cond t (told_to crew c) (holder_in crew cs link colour)
          ≡ learnt (holder_in desk (cond u (c ∷ orders_in crew cs) (orders_in crew cs)) link colour) (t || held_in cs link colour)
      go true p true q later =
          told true q
          ∙ sym (ap (λ (v : Bool). learnt (cond v (told_to desk c) (holder_in desk (orders_in crew cs) link colour)) true) p)
      go true p false q later =
          told false q
          ∙ sym (ap (λ (a : Holder). learnt a true) (none_holds (orders_in crew cs) link colour
          (orders_all (λ d. holds d link colour ≡ false) cs (λ i h. apart 0 (suc i) (omega arith) (omega arith) p))))
      go false p true q later =
          later
          ∙ sym (ap (λ (v : Bool). learnt (cond v (told_to desk c) (holder_in desk (orders_in crew cs) link colour)) (held_in cs link colour))
          p)
      go false p false q later = later

-- ---- and of valid books

module _ (crew : ℕ) (b : Book) (v : Valid b) where
  own_shown_lem : (s : ℕ) → own_shown crew b s ≡ show_found (lookup_in 0 (orders_in crew (records_of b)) s) SerialNeverGiven
  unfolding own_shown lookup
  own_shown_lem s = go (never_given b.grants s) refl
    where
      go : (t : Bool) → never_given b.grants s ≡ t
          → show_found (own_found crew (cond t None (lookup_in 0 (records_of b) s))) SerialNeverGiven
          ≡ show_found (lookup_in 0 (orders_in crew (records_of b)) s) SerialNeverGiven
      go true e = sym (ap (λ (l : Option (ℕ × Circuit)). show_found l SerialNeverGiven)
          (none_own crew (records_of b) 0 s (λ i h. ne_eqb (circuit (records_of b) i).serial s (λ q.
          let g = v.circuits.given i h in
          impossible (sym e ∙ given_not b.grants s (omega arith) (omega arith))))))
      go false e = own_lookup crew (records_of b) 0 0 s SerialNeverGiven v.circuits.rising

  -- what the crew reads of its orders and of what is held
  pub shown_own : eqb crew desk ≡ false → (s : ℕ)
      → shown_to crew b s ≡ show_unless (crew_verdict crew) (show_found (lookup_in 0 (orders_in crew (records_of b)) s) SerialNeverGiven)
  unfolding shown_to
  shown_own other s =
      ap (λ (t : Bool). show_unless (crew_verdict crew) (cond t (shown b s) (own_shown crew b s))) other
      ∙ ap (show_unless (crew_verdict crew)) (own_shown_lem s)

  pub held_own : eqb crew desk ≡ false → (link colour : ℕ) → link < b.n
      → holder_in crew (records_of b) link colour
      ≡ learnt crew (holder_in desk (orders_in crew (records_of b)) link colour) (held_in (records_of b) link colour)
  held_own other link colour h = own_holder crew (records_of b) link colour other (λ i j l k. v.circuits.apart i j l k link colour h)

-- neither 16 nor 10
within : (b : Book) (link colour : ℕ) → holder_verdict b link colour ≡ Ok tt → (link < b.n) × (colour < b.w)
unfolding holder_verdict
within b link colour e =
    let p = both_allowed (refuse_if (leb b.n link) LinkNumber) (refuse_if (leb b.w colour) ColourNumber) e in (
      leb-false b.n link (refuse_allowed (leb b.n link) LinkNumber p.0),
      leb-false b.w colour (refuse_allowed (leb b.w colour) ColourNumber p.1),
    )

module _ (crew : ℕ) (b d : Book) (v : Valid b) (u : Valid d) (other : eqb crew desk ≡ false) (alike : AlikeFor crew b d) where
  orders_alike : (s : ℕ) → shown_to crew b s ≡ shown_to crew d s
  orders_alike s =
      shown_own crew b v other s
      ∙ ap (λ (cs : List Circuit). show_unless (crew_verdict crew) (show_found (lookup_in 0 cs s) SerialNeverGiven)) alike.orders
      ∙ sym (shown_own crew d u other s)

  inside_alike : (link colour : ℕ) → link < b.n → colour < b.w
      → holder_in crew (records_of b) link colour ≡ holder_in crew (records_of d) link colour
  inside_alike link colour h k =
      let n = alike.nodes in
      held_own crew b v other link colour h
      ∙ ap (λ (cs : List Circuit). learnt crew (holder_in desk cs link colour) (held_in (records_of b) link colour)) alike.orders
      ∙ ap (learnt crew (holder_in desk (orders_in crew (records_of d)) link colour)) (alike.held link colour h k)
      ∙ sym (held_own crew d u other link colour (omega arith))

  verdicts_alike : (link colour : ℕ) → holder_verdict b link colour ≡ holder_verdict d link colour
  unfolding holder_verdict
  verdicts_alike link colour =
      ap (λ (n : ℕ). or_else (refuse_if (leb n link) LinkNumber) (refuse_if (leb b.w colour) ColourNumber)) alike.nodes
      ∙ ap (λ (w : ℕ). or_else (refuse_if (leb d.n link) LinkNumber) (refuse_if (leb w colour) ColourNumber)) alike.colours

  holders_alike : (link colour : ℕ) → held_for crew b link colour ≡ held_for crew d link colour
  unfolding held_for
  holders_alike link colour =
      go (crew_verdict crew) (holder_verdict b link colour) (within b link colour)
      ∙ ap (λ (t : Verdict). holder_unless (or_else (crew_verdict crew) t) (Ok (holder_in crew (records_of d) link colour)))
      (verdicts_alike link colour)
    where
      go : (s t : Verdict) → (t ≡ Ok tt → (link < b.n) × (colour < b.w))
          → holder_unless (or_else s t) (Ok (holder_in crew (records_of b) link colour))
          ≡ holder_unless (or_else s t) (Ok (holder_in crew (records_of d) link colour))
      go (Ok crews) (Ok ranges) inside = let p = inside refl in ap Ok (inside_alike link colour p.0 p.1)
      go (Ok allowed) (Err r) inside = refl
      go (Err r) t inside = refl

pub isolation : Isolation
isolation b d v u crew other alike =
    let e = ne_eqb crew desk other in
    record { orders = orders_alike crew b d v u e alike; holders = holders_alike crew b d v u e alike }

-- The live circuits of a book are its orders: each is shown under its serial, and nothing else is shown.
use Prim.Native.Nat.{ℕ, zero, suc, ◌≤◌, ◌<◌}
use mathlib.Core.Path.{◌≡◌, refl, sym, ◌∙◌, ap}
use mathlib.Core.Bool.{Bool, true, false, cond}
use mathlib.Core.List.{List, [], ◌∷◌}
use native.Mathlib.Omega.{arith}
use borrow.Author.Tests.{ne_eqb}
use lib.ListN.{length}
use Rattle.std.specs.Prelude.{Option, Some, None, Ok}
use Rattle.ring.proofs.Cases.{eqb_refl, impossible}
use Rattle.book.specs.declared.circuits.RecordState.{RecordState}
use Rattle.book.specs.declared.circuits.RecordState.TheVariants.{Live, Pending}
use Rattle.book.specs.declared.circuits.Circuit.{Circuit}
use Rattle.book.specs.declared.books.Book.{Book}
use Rattle.book.specs.Circuits.{live_state, is_live, circuit}
use Rattle.book.specs.Books.{records_of, live_in, live_of, Valid}
use Rattle.book.specs.Orders.{lookup, live_found, missing, show_found, shown}
use Rattle.book.proofs.Lookups.{live_found_lem, found_place, found_there}
use Rattle.book.proofs.Standings.{Unknown, IsLive, stands_as, standing_in, show_by, shown_by}
use Rattle.book.proofs.StandingChanges.{given_not}

-- what is so of every record is so of every live one
pub live_all : (P : Circuit → Type 0) (cs : List Circuit) → ((i : ℕ) → i < length cs → P (circuit cs i)) → (i : ℕ)
    → i < length (live_in cs) → P (circuit (live_in cs) i)
live_all P [] f i h = absurd (omega arith)
live_all P (c ∷ cs) f i h = go (is_live c) (live_all P cs (λ j k. f (suc j) (omega arith))) i h
  where
    go : (t : Bool) → ((i : ℕ) → i < length (live_in cs) → P (circuit (live_in cs) i)) → (i : ℕ)
        → i < length (cond t (c ∷ live_in cs) (live_in cs)) → P (circuit (cond t (c ∷ live_in cs) (live_in cs)) i)
    go true later zero k = f 0 (omega arith)
    go true later (suc j) k = later j (omega arith)
    go false later j k = later j k

live_state_lem : (t : RecordState) (c : Circuit) → live_state t ≡ true → stands_as t c ≡ IsLive c
live_state_lem Live c e = refl
live_state_lem Pending c e = impossible (sym e)

-- serials rise, so that a live circuit is the first of its serial
live_stands : (cs : List Circuit) → ((i j : ℕ) → i < j → j < length cs → (circuit cs i).serial < (circuit cs j).serial) → (i : ℕ)
    → i < length (live_in cs) → standing_in cs (circuit (live_in cs) i).serial ≡ IsLive (circuit (live_in cs) i)
live_stands [] rising i h = absurd (omega arith)
live_stands (c ∷ cs) rising i h =
    go (is_live c) refl (λ j k.
    let above = live_all (λ d. c.serial < d.serial) cs (λ l m. rising 0 (suc l) (omega arith) (omega arith)) j k in
    ap (λ (t : Bool). cond t (stands_as c.state c) (standing_in cs (circuit (live_in cs) j).serial))
    (ne_eqb c.serial (circuit (live_in cs) j).serial (λ e. omega arith))
    ∙ live_stands cs (λ l m p q. rising (suc l) (suc m) (omega arith) (omega arith)) j k) i h
  where
    go : (t : Bool) → is_live c ≡ t
        → ((j : ℕ) → j < length (live_in cs) → standing_in (c ∷ cs) (circuit (live_in cs) j).serial ≡ IsLive (circuit (live_in cs) j))
        → (i : ℕ) → i < length (cond t (c ∷ live_in cs) (live_in cs))
        → standing_in (c ∷ cs) (circuit (cond t (c ∷ live_in cs) (live_in cs)) i).serial
        ≡ IsLive (circuit (cond t (c ∷ live_in cs) (live_in cs)) i)
    go true e later zero k =
        ap (λ (t : Bool). cond t (stands_as c.state c) (standing_in cs c.serial)) (eqb_refl c.serial) ∙ live_state_lem c.state c e
    go true e later (suc j) k = later j (omega arith)
    go false e later j k = later j k

-- a live circuit of a valid book is shown under its serial
pub live_shown : (b : Book) → Valid b → (i : ℕ) → i < length (live_of b)
    → shown b (circuit (live_of b) i).serial ≡ Ok (circuit (live_of b) i)
live_shown b v i h =
    let serial = (circuit (live_of b) i).serial in
    let given = live_all (λ c. (1 ≤ c.serial) × (c.serial ≤ b.grants)) (records_of b) v.circuits.given i h in
    shown_by b serial
    ∙ ap show_by (ap (λ (t : Bool). cond t Unknown (standing_in (records_of b) serial)) (given_not b.grants serial given.0 given.1)
    ∙ live_stands (records_of b) v.circuits.rising i h)

-- what is shown is a record
pub record ShownAt (b : Book) (c : Circuit) : Type 0 where
  pub place : ℕ
  pub below : place < length (records_of b)
  pub there : circuit (records_of b) place ≡ c

pub shown_at : (b : Book) (s : ℕ) (c : Circuit) → shown b s ≡ Ok c → ShownAt b c
unfolding shown
shown_at b s c e = go (live_found (lookup b s)) refl e
  where
    go : (l : Option (ℕ × Circuit)) → live_found (lookup b s) ≡ l → show_found l (missing b s) ≡ Ok c → ShownAt b c
    go (Some (i, d)) q r =
        let same : d ≡ c = cc in
        let found = live_found_lem b s i d q in
        record { place = i; below = found_place b s i d found; there = found_there b s i d found ∙ same }
    go None q r = impossible (cc)

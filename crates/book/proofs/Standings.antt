-- How an order stands in a book: by this show, remove and confirm answer.
use Prim.Native.Nat.{ℕ, ◌+◌}
use mathlib.Core.Path.{◌≡◌, refl, sym, ◌∙◌, ap}
use mathlib.Core.Bool.{Bool, true, false, cond}
use mathlib.Core.List.{List, [], ◌∷◌}
use lib.Dec.{eqb}
use Rattle.std.specs.Prelude.{Option, Some, None, Result, Ok, Err, ⊤}
use Rattle.ring.specs.declared.refusals.Refusal.{Refusal}
use Rattle.ring.specs.declared.refusals.Refusal.TheVariants.{SerialNeverGiven, SerialRemoved, SerialLive, SerialConfirmed}
use Rattle.book.specs.declared.circuits.RecordState.{RecordState}
use Rattle.book.specs.declared.circuits.RecordState.TheVariants.{Live, Pending}
use Rattle.book.specs.declared.circuits.Circuit.{Circuit}
use Rattle.book.specs.declared.books.Book.{Book}
use Rattle.book.specs.Circuits.{live_state}
use Rattle.book.specs.Books.{records_of}
use Rattle.book.specs.Orders.{never_given, lookup_in, lookup, live_found, missing, show_found, shown}
use Rattle.book.specs.Removals.{remove_found, removed}
use Rattle.book.specs.Confirmations.{absent, confirm_record, confirm_found, confirmed}
use Rattle.book.proofs.States.{as_granted}

-- never given; live; pending, with the circuit as it was granted; confirmed
pub data Standing : Type 0 where
  Unknown : Standing
  IsLive : Circuit → Standing
  IsPending : Circuit → Standing
  Gone : Standing

-- by the state of the record
abbrev pub stands_as : RecordState → Circuit → Standing
stands_as Live c = IsLive c
stands_as Pending c = IsPending (as_granted c)

-- among these records, places aside
abbrev pub standing_in : List Circuit → ℕ → Standing
standing_in [] s = Gone
standing_in (c ∷ cs) s = cond (eqb c.serial s) (stands_as c.state c) (standing_in cs s)

-- and after so many grants
abbrev pub standing : ℕ → List Circuit → ℕ → Standing
standing g cs s = cond (never_given g s) Unknown (standing_in cs s)

abbrev pub standing_of : Book → ℕ → Standing
standing_of b s = standing b.grants (records_of b) s

-- ---- the answers

abbrev pub show_by : Standing → Result Circuit Refusal
show_by Unknown = Err SerialNeverGiven
show_by (IsLive c) = Ok c
show_by (IsPending c) = Err SerialRemoved
show_by Gone = Err SerialRemoved

abbrev pub remove_by : Standing → Result ⊤ Refusal
remove_by Unknown = Err SerialNeverGiven
remove_by (IsLive c) = Ok tt
remove_by (IsPending c) = Err SerialRemoved
remove_by Gone = Err SerialRemoved

abbrev pub confirm_by : Standing → Result ⊤ Refusal
confirm_by Unknown = Err SerialNeverGiven
confirm_by (IsLive c) = Err SerialLive
confirm_by (IsPending c) = Ok tt
confirm_by Gone = Err SerialConfirmed

-- the standing that the record of a lookup has
abbrev found_as : Option (ℕ × Circuit) → Standing
found_as (Some (i, c)) = stands_as c.state c
found_as None = Gone

found_stands : (cs : List Circuit) (i s : ℕ) → found_as (lookup_in i cs s) ≡ standing_in cs s
unfolding lookup_in
found_stands [] i s = refl
found_stands (c ∷ cs) i s = go (eqb c.serial s) (found_stands cs (i + 1) s)
  where
    go : (t : Bool) → found_as (lookup_in (i + 1) cs s) ≡ standing_in cs s
        → found_as (cond t (Some (i, c)) (lookup_in (i + 1) cs s)) ≡ cond t (stands_as c.state c) (standing_in cs s)
    go true e = refl
    go false e = e

-- the answers by a record's state
show_state : (t : RecordState) (i : ℕ) (c : Circuit)
    → show_found (cond (live_state t) (Some (i, c)) None) SerialRemoved ≡ show_by (stands_as t c)
show_state Live i c = refl
show_state Pending i c = refl

remove_state : (b : Book) (t : RecordState) (i : ℕ) (c : Circuit)
    → (remove_found (cond (live_state t) (Some (i, c)) None) SerialRemoved b).answer ≡ remove_by (stands_as t c)
remove_state b Live i c = refl
remove_state b Pending i c = refl

confirm_state : (b : Book) (t : RecordState) (i : ℕ) (c : Circuit) → (confirm_record (live_state t) i b).answer ≡ confirm_by (stands_as t c)
confirm_state b Live i c = refl
confirm_state b Pending i c = refl

module _ (b : Book) (s : ℕ) where
  -- the standing, by what the search among the records finds
  stands : (l : Option (ℕ × Circuit)) → lookup_in 0 (records_of b) s ≡ l → standing_of b s ≡ cond (never_given b.grants s) Unknown (found_as l)
  stands l e = ap (cond (never_given b.grants s) Unknown) (sym (found_stands (records_of b) 0 s) ∙ ap found_as e)

  pub shown_by : shown b s ≡ show_by (standing_of b s)
  unfolding shown lookup missing
  shown_by = go (never_given b.grants s) (lookup_in 0 (records_of b) s) ∙ ap show_by (sym (stands (lookup_in 0 (records_of b) s) refl))
    where
      go : (t : Bool) (l : Option (ℕ × Circuit))
          → show_found (live_found (cond t None l)) (cond t SerialNeverGiven SerialRemoved) ≡ show_by (cond t Unknown (found_as l))
      go true l = refl
      go false (Some (i, c)) = show_state c.state i c
      go false None = refl

  pub removed_by : (removed b s).answer ≡ remove_by (standing_of b s)
  unfolding removed lookup missing
  removed_by = go (never_given b.grants s) (lookup_in 0 (records_of b) s) ∙ ap remove_by (sym (stands (lookup_in 0 (records_of b) s) refl))
    where
      go : (t : Bool) (l : Option (ℕ × Circuit))
          → (remove_found (live_found (cond t None l)) (cond t SerialNeverGiven SerialRemoved) b).answer
          ≡ remove_by (cond t Unknown (found_as l))
      go true l = refl
      go false (Some (i, c)) = remove_state b c.state i c
      go false None = refl

  pub confirmed_by : (confirmed b s).answer ≡ confirm_by (standing_of b s)
  unfolding confirmed lookup absent
  confirmed_by = go (never_given b.grants s) (lookup_in 0 (records_of b) s) ∙ ap confirm_by (sym (stands (lookup_in 0 (records_of b) s) refl))
    where
      go : (t : Bool) (l : Option (ℕ × Circuit))
          → (confirm_found (cond t None l) (cond t SerialNeverGiven SerialConfirmed) b).answer ≡ confirm_by (cond t Unknown (found_as l))
      go true l = refl
      go false (Some (i, c)) = confirm_state b c.state i c
      go false None = refl

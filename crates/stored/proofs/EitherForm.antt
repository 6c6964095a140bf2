-- A file in either form: the book of the form that takes it.
use Rattle.ring.specs.declared.refusals.Refusal.{Refusal}
use Rattle.std.specs.Prelude.{Result, Ok, Err, ⊤}
use mathlib.Core.Path.{◌≡◌, refl, sym, ◌∙◌, ap}
use mathlib.Core.List.{List}
use native.Mathlib.Omega.{arith}
use Prim.Native.Nat.{ℕ}
use Rattle.ring.proofs.Cases.{impossible}
use Rattle.book.specs.declared.books.Book.{Book}
use Rattle.book.specs.Books.{Valid}
use Rattle.stored.specs.declared.forms.Form.TheVariants.{New}
use Rattle.stored.specs.Forms.{stored_form}
use Rattle.stored.specs.Loading.{Loaded, loaded, loaded_old, new_or_old, loaded_either}
use Rattle.stored.proofs.Promised.{reads_back, loads_only_forms, loads_only_old_forms, one_form}

-- from what the two loads answer
pub either_told : (bytes : List ℕ) {new old : Loaded} {a o : Result ⊤ Refusal} → new ≡ loaded 0 bytes → old ≡ loaded_old bytes
    → new.answer ≡ a → old.answer ≡ o → new_or_old a o new old ≡ loaded_either bytes
unfolding loaded_either
either_told bytes p q e f = rw (← p, ← q, e, f) refl

-- what the new form's load takes, whatever the old one's says
pub either_new : (bytes : List ℕ) {new : Loaded} → new ≡ loaded 0 bytes → new.answer ≡ Ok tt → new ≡ loaded_either bytes
either_new bytes p e = either_told bytes p refl e refl

pub either_old : (bytes : List ℕ) → (loaded_old bytes).answer ≡ Ok tt → loaded_either bytes ≡ loaded_old bytes
either_old bytes e = go (loaded 0 bytes).answer refl
  where
    go : (a : Result ⊤ Refusal) → (loaded 0 bytes).answer ≡ a → loaded_either bytes ≡ loaded_old bytes
    go (Ok tt) q = absurd (one_form 0 bytes q e)
    go (Err r) q = sym (either_told bytes refl refl q e)

-- a stored book reads back as itself here too
pub either_back : (b : Book) → Valid b → loaded_either (stored_form New b) ≡ record { answer = Ok tt; book = b }
either_back b v =
    let back = reads_back b v 0 (omega arith) in
    sym (either_new (stored_form New b) refl (ap (λ (l : Loaded). l.answer) back)) ∙ back

-- what loads is valid
pub either_valid : (bytes : List ℕ) → (loaded_either bytes).answer ≡ Ok tt → Valid (loaded_either bytes).book
unfolding loaded_either
either_valid bytes = go (loaded 0 bytes).answer refl (loaded_old bytes).answer refl
  where
    go : (a : Result ⊤ Refusal) → (loaded 0 bytes).answer ≡ a → (o : Result ⊤ Refusal) → (loaded_old bytes).answer ≡ o
        → (new_or_old a o (loaded 0 bytes) (loaded_old bytes)).answer ≡ Ok tt
        → Valid (new_or_old a o (loaded 0 bytes) (loaded_old bytes)).book
    go (Ok tt) p o q e = (loads_only_forms 0 bytes p).valid
    go (Err r) p (Ok tt) q e = (loads_only_old_forms bytes q).valid
    go (Err r) p (Err s) q e = impossible (cc)

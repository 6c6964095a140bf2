-- Outcomes in numbers: a refusal is no success, a refused store leaves the buffer, and values fill a slice from its front.
use Prim.Native.Nat.{ℕ, suc, ◌+◌, min}
use mathlib.Core.Path.{◌≡◌, refl, sym, ◌∙◌, ap}
use mathlib.Core.Bool.{Bool, true, false, cond}
use mathlib.Core.List.{List, [], ◌∷◌, ◌++◌}
use native.Mathlib.Omega.{arith}
use native.Mathlib.Numerals.{add-one}
use lib.Dec.{eqb, ltb}
use lib.ListN.{length, drop, take, set}
use Rattle.std.proofs.Common.{rules}
use Rattle.std.specs.Prelude.{Ok, Err}
use Rattle.ring.specs.declared.refusals.Refusal.{Refusal}
use Rattle.ring.specs.declared.refusals.Refusal.TheVariants.{BufferShort}
use Rattle.ring.specs.Answers.{refuses}
use Rattle.ring.specs.Refusals.{number_of}
use Rattle.ring.proofs.Cases.{impossible}
use Rattle.book.specs.declared.books.Book.{Book}
use Rattle.stored.specs.declared.forms.Form.{Form}
use Rattle.stored.specs.declared.forms.Form.TheVariants.{New}
use Rattle.stored.specs.Forms.{stored_form}
use Rattle.stored.specs.Storing.{length_of, form_answer, after_form, store_answer, after_store, store_in_numbers}
use Rattle.outcomes.specs.Outcomes.{put_from, on_success}

-- no refusal has the number of success
pub refusal_number : (r : Refusal) → eqb (number_of r) 0 ≡ false
refusal_number r = search rules

pub on_refusal : {A : Type 0} (r : Refusal) (next refusal : A) → on_success (refuses r) next refusal ≡ refusal
on_refusal {A} r next refusal = ap (λ (t : Bool). cond t next refusal) (refusal_number r)

-- what a call comes to goes by the answer of the operation, whose result is the defined one
pub by_answer : {A R O : Type 0} (answer : R → A) (f : A → R → O) {r s : R} {a : A} → r ≡ s → answer r ≡ a → f a r ≡ f (answer s) s
by_answer {A} {R} answer f {r} e g = ap (λ (x : A). f x r) (sym g) ∙ ap (λ (x : R). f (answer x) x) e

-- a form for which there is no room is not written
pub form_kept : (form : Form) (b : Book) (buffer : List ℕ) → ((store_in_numbers (form_answer form b buffer)).number ≡ 0 → ⊥)
    → after_form form b buffer ≡ buffer
unfolding form_answer after_form
form_kept form b buffer = go (ltb (length buffer) (length_of form b))
  where
    go : (t : Bool) → ((store_in_numbers (cond t (Err BufferShort) (Ok (length_of form b)))).number ≡ 0 → ⊥)
        → cond t buffer (stored_form form b ++ drop (length_of form b) buffer) ≡ buffer
    go true h = refl
    go false h = absurd (h refl)

-- a book that is not stored leaves the buffer
pub store_kept : (b : Book) (buffer : List ℕ) {r : Refusal} → store_answer b buffer ≡ Err r → after_store b buffer ≡ buffer
unfolding form_answer after_form
store_kept b buffer {r} = go (ltb (length buffer) (length_of New b))
  where
    go : (t : Bool) → cond t (Err BufferShort) (Ok (length_of New b)) ≡ Err r
        → cond t buffer (stored_form New b ++ drop (length_of New b) buffer) ≡ buffer
    go true e = refl
    go false e = impossible (cc)

-- values that are put behind the first entry leave it
put_behind : (i : ℕ) (given : List ℕ) (v : ℕ) (values : List ℕ) → put_from (i + 1) given (v ∷ values) ≡ v ∷ put_from i given values
put_behind i [] v values = refl
put_behind i (x ∷ given) v values =
    let behind : set (v ∷ values) (i + 1) x ≡ v ∷ set values i x = rw add-one refl in
    rw behind (put_behind (i + 1) given v (set values i x))

put_nowhere : (i : ℕ) (given : List ℕ) → put_from i given [] ≡ []
put_nowhere i [] = refl
put_nowhere i (x ∷ given) = put_nowhere (i + 1) given

-- as many as fit, copied to the front
pub put_front : (given values : List ℕ) (n : ℕ) → n ≡ min (length given) (length values)
    → take n given ++ drop n values ≡ put_from 0 given values
put_front [] values n e = let none : n ≡ 0 = omega arith in rw none refl
put_front (x ∷ given) [] n e = let none : n ≡ 0 = omega arith in rw none (sym (put_nowhere 0 (x ∷ given)))
put_front (x ∷ given) (v ∷ values) n e =
    let some : n ≡ suc (min (length given) (length values)) = omega arith in
    rw some
    (ap (λ (l : List ℕ). x ∷ l) (put_front given values (min (length given) (length values)) refl) ∙ sym (put_behind 0 given x values))

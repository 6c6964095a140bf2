-- The grounds of load in their order.
use Rattle.std.specs.Prelude.{Result, Ok, Err}
use Rattle.std.specs.Result.{result_unwrap_or}
use Prim.Native.Nat.{ℕ, zero, suc, ◌/◌, ◌%◌, ◌≤◌, ◌<◌}
use mathlib.Core.Path.{◌≡◌, refl, sym, ◌∙◌, ap}
use mathlib.Core.Bool.{Bool, true, false, not, cond, ◌&&◌, ◌||◌}
use mathlib.Core.List.{List, []}
use native.Mathlib.Omega.{arith}
use lib.Dec.{eqb, ltb}
use borrow.Author.Tests.{eqb-true, eqb-false, ltb-false, lt-ltb, le-ltb}
use lib.ListN.{length}
use Rattle.ring.specs.declared.refusals.Refusal.{Refusal}
use Rattle.ring.specs.declared.refusals.Refusal.TheVariants as ground
use Rattle.ring.specs.Refusals.{refuse_if, or_else, Verdict}
use Rattle.ring.specs.Buffers.{same_bytes}
use Rattle.ring.proofs.Cases.{impossible}
use Rattle.book.specs.declared.books.Book.{Book}
use Rattle.book.specs.Books.{book_of}
use Rattle.book.specs.Revisions.{revision}
use Rattle.stored.specs.declared.forms.Form.{Form}
use Rattle.stored.specs.declared.forms.Form.TheVariants.{New}
use Rattle.stored.specs.Forms.{longest, stored_form}
use Rattle.stored.specs.Reading.{blocks_right, book_in}
use Rattle.stored.specs.Validity.{book_fits}
use Rattle.stored.specs.Loading.{Loaded, length_wrong, form_right, form_verdict, load_verdict, load_unless, loading_of, loaded}

-- a length that is not refused
pos : (n : ℕ) → (n ≡ 0 → ⊥) → 0 < n
pos zero h = absurd (h refl)
pos (suc n) h = omega arith

pub length_good : (form : Form) (n : ℕ) → length_wrong form n ≡ false → (0 < n) × (n % 512 ≡ 0) × (n ≤ longest form)
unfolding length_wrong
length_good form n e = go (eqb n 0) (eqb (n % 512) 0) (ltb (longest form) n) refl refl refl e
  where
    go : (p q r : Bool) → eqb n 0 ≡ p → eqb (n % 512) 0 ≡ q → ltb (longest form) n ≡ r → (p || (not q || r)) ≡ false
        → (0 < n) × (n % 512 ≡ 0) × (n ≤ longest form)
    go false true false a b c h = let z : n ≡ 0 → ⊥ = eqb-false n 0 a in (pos n z, eqb-true (n % 512) 0 b, ltb-false (longest form) n c)
    go true q r a b c h = impossible (cc)
    go false false r a b c h = impossible (cc)
    go false true true a b c h = impossible (cc)

-- 18, 19, 20
module _ (form : Form) (bytes : List ℕ) where
  abbrev verdict_of : Bool → Bool → Bool → Verdict
  verdict_of p q r =
      or_else (refuse_if p ground.StoredLength) (or_else (refuse_if (not q) ground.BlockCheck) (refuse_if (not r) ground.StoredForm))

  verdict_is : (p q r : Bool) → length_wrong form (length bytes) ≡ p → blocks_right bytes (length bytes / 512) ≡ q
      → form_right form bytes ≡ r → form_verdict form bytes ≡ verdict_of p q r
  unfolding form_verdict
  verdict_is p q r e f g =
      ap (λ (t : Bool). verdict_of t (blocks_right bytes (length bytes / 512)) (form_right form bytes)) e
      ∙ ap (λ (t : Bool). verdict_of p t (form_right form bytes)) f
      ∙ ap (λ (t : Bool). verdict_of p q t) g

  pub form_long : length_wrong form (length bytes) ≡ true → form_verdict form bytes ≡ Err ground.StoredLength
  form_long e = verdict_is true (blocks_right bytes (length bytes / 512)) (form_right form bytes) e refl refl

  pub form_check : length_wrong form (length bytes) ≡ false → blocks_right bytes (length bytes / 512) ≡ false
      → form_verdict form bytes ≡ Err ground.BlockCheck
  form_check e f = verdict_is false false (form_right form bytes) e f refl

  pub form_good : length_wrong form (length bytes) ≡ false → blocks_right bytes (length bytes / 512) ≡ true → form_right form bytes ≡ true
      → form_verdict form bytes ≡ Ok tt
  form_good e f g = verdict_is false true true e f g

  pub form_bad : length_wrong form (length bytes) ≡ false → blocks_right bytes (length bytes / 512) ≡ true → form_right form bytes ≡ false
      → form_verdict form bytes ≡ Err ground.StoredForm
  form_bad e f g = verdict_is false true false e f g

  -- 20, of a book that is read
  pub form_right_is : (b : Book) (fits same : Bool) → b ≡ book_in form bytes → fits ≡ book_fits b → same ≡ same_bytes bytes (stored_form form b)
      → form_right form bytes ≡ (fits && same)
  unfolding form_right
  form_right_is b fits same e f g = rw (sym e, f, g) refl

  -- what none of them turns down passed the tests
  pub form_passed : form_verdict form bytes ≡ Ok tt → form_right form bytes ≡ true
  form_passed e = go (length_wrong form (length bytes)) (blocks_right bytes (length bytes / 512)) (form_right form bytes)
      (sym (verdict_is _ _ _ refl refl refl) ∙ e)
    where
      go : (p q r : Bool) → verdict_of p q r ≡ Ok tt → r ≡ true
      go false true true f = refl
      go true q r f = impossible (cc)
      go false false r f = impossible (cc)
      go false true false f = impossible (cc)

-- the last ground, on a book that was read: the book, or 28
abbrev pub recent_of : Book → ℕ → Loaded
recent_of b lowest =
    cond (ltb (revision b) lowest) (record { answer = Err ground.RevisionLow; book = book_of 0 0 0 [] })
    (record { answer = Ok tt; book = b })

-- 28
module _ (lowest : ℕ) (bytes : List ℕ) where
  pub load_refused : {r : Refusal} → form_verdict New bytes ≡ Err r
      → loaded lowest bytes ≡ record { answer = Err r; book = book_of 0 0 0 [] }
  unfolding loaded load_verdict
  load_refused e =
      ap (λ (t : Verdict). load_unless New (or_else t (refuse_if (ltb (revision (book_in New bytes)) lowest) ground.RevisionLow)) bytes) e

  pub load_allowed : form_verdict New bytes ≡ Ok tt → loaded lowest bytes ≡ recent_of (book_in New bytes) lowest
  unfolding loaded load_verdict
  load_allowed e =
      ap (λ (t : Verdict). load_unless New (or_else t (refuse_if (ltb (revision (book_in New bytes)) lowest) ground.RevisionLow)) bytes) e
      ∙ tried (ltb (revision (book_in New bytes)) lowest)
    where
      tried : (t : Bool) → load_unless New (refuse_if t ground.RevisionLow) bytes
          ≡ cond t (record { answer = Err ground.RevisionLow; book = book_of 0 0 0 [] })
          (record { answer = Ok tt; book = book_in New bytes })
      tried true = refl
      tried false = refl

pub recent_low : (b : Book) (lowest : ℕ) → revision b < lowest
    → record { answer = Err ground.RevisionLow; book = book_of 0 0 0 [] } ≡ recent_of b lowest
recent_low b lowest h =
    sym (ap (λ (t : Bool). cond t (record { answer = Err ground.RevisionLow; book = book_of 0 0 0 [] })
    (record { answer = Ok tt; book = b })) (lt-ltb (revision b) lowest h))

pub recent_kept : (b : Book) (lowest : ℕ) → lowest ≤ revision b → record { answer = Ok tt; book = b } ≡ recent_of b lowest
recent_kept b lowest h =
    sym (ap (λ (t : Bool). cond t (record { answer = Err ground.RevisionLow; book = book_of 0 0 0 [] })
    (record { answer = Ok tt; book = b })) (le-ltb (revision b) lowest h))

-- load, from what reading the form gave
module _ (lowest : ℕ) (bytes : List ℕ) where
  answer_is : (v : Verdict) → (load_unless New v bytes).answer ≡ v
  answer_is (Ok tt) = refl
  answer_is (Err r) = refl

  pub load_read : (b : Book) → record { answer = Ok tt; book = b } ≡ load_unless New (form_verdict New bytes) bytes
      → recent_of b lowest ≡ loaded lowest bytes
  load_read b e =
      let v : form_verdict New bytes ≡ Ok tt = sym (ap (λ (x : Loaded). x.answer) e ∙ answer_is (form_verdict New bytes)) in
      let same : b ≡ book_in New bytes = ap (λ (x : Loaded). x.book) e ∙ rw v refl in
      rw same (sym (load_allowed lowest bytes v))

  pub load_stopped : (r : Refusal) → record { answer = Err r; book = book_of 0 0 0 [] } ≡ load_unless New (form_verdict New bytes) bytes
      → record { answer = Err r; book = book_of 0 0 0 [] } ≡ loaded lowest bytes
  load_stopped r e = sym (load_refused lowest bytes (sym (ap (λ (x : Loaded). x.answer) e ∙ answer_is (form_verdict New bytes))))

-- the book of an answer, or that of no nodes
pub loading_book : (r : Result Book Refusal) → result_unwrap_or r (book_of 0 0 0 []) ≡ (loading_of r).book
loading_book (Ok b) = refl
loading_book (Err r) = refl

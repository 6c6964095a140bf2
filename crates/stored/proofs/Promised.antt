-- A stored book reads back as itself, and nothing else loads.
use Rattle.ring.specs.Refusals.{Verdict}
use Rattle.std.specs.Prelude.{Ok, Err}
use Prim.Native.Nat.{ℕ, ◌+◌, ◌-◌, ◌*◌, ◌/◌, ◌%◌, ◌≤◌, ◌<◌, min}
use mathlib.Core.Path.{◌≡◌, refl, sym, ◌∙◌, ap, subst}
use mathlib.Core.Bool.{Bool, true, false, not, cond, ◌&&◌, ◌||◌}
use mathlib.Core.List.{List, [], ◌++◌}
use native.Mathlib.Omega.{arith}
use lib.Dec.{eqb, ltb}
use borrow.Author.Tests.{eq-eqb, ne_eqb, le-ltb, ltb-false}
use lib.ListN.{length}
use Rattle.ring.specs.declared.refusals.Refusal.TheVariants.{RevisionLow}
use Rattle.ring.specs.Buffers.{same_bytes}
use Rattle.ring.proofs.FateLaws.{number_within}
use Rattle.ring.proofs.BufferLaws.{same_refl, same_equal}
use Rattle.ring.proofs.Cases.{compare, less, not_less, impossible, and_true}
use Rattle.book.specs.declared.books.Book.{Book}
use Rattle.book.specs.Circuits.{circuit}
use Rattle.book.specs.Books.{records_of, book_of, Valid}
use Rattle.book.specs.Revisions.{revision}
use Rattle.book.proofs.ConflictLaws.{true_and}
use Rattle.book.proofs.Forms.{records_form}
use Rattle.book.proofs.Marks.{none_marked}
use Rattle.stored.specs.declared.forms.Form.{Form}
use Rattle.stored.specs.declared.forms.Form.TheVariants.{Old, New}
use Rattle.stored.specs.Blocks.{word, word_at}
use Rattle.stored.specs.Forms.{longest, form_mark, block_count, stored_form}
use Rattle.stored.specs.Storing.{length_of}
use Rattle.stored.specs.Reading.{part_of, blocks_right, circuits_in, book_in}
use Rattle.stored.specs.Validity.{book_fits}
use Rattle.stored.specs.Loading.{Loaded, length_wrong, form_right, form_verdict, load_unless, loaded, loaded_old}
use Rattle.stored.specs.Promises.{ReadsBack, OldReadsBack, IsForm, LoadsOnlyForms, IsOldForm, LoadsOnlyOldForms, OneForm}
use Rattle.stored.proofs.FormLaws.{later_few, longest_small}
use Rattle.stored.proofs.StoreLaws.{form_length}
use Rattle.stored.proofs.ReadLaws.{circuits_few, read_unmarked}
use Rattle.stored.proofs.LoadLaws.{form_good, form_passed, load_refused, load_allowed, recent_of, recent_low, recent_kept}
use Rattle.stored.proofs.BlockReading.{Kept, Fields}
use Rattle.stored.proofs.RoundTrip.{form_right_lem, header_cells, header_word, book_back}
use Rattle.stored.proofs.Fitting.{valid_fits, fits_valid}

-- the length of a stored form
module _ (form : Form) (b : Book) (room : length (records_of b) ≤ 512) where
  pub right_length : length_wrong form (length (stored_form form b)) ≡ false
  unfolding length_wrong
  right_length =
      let l : length (stored_form form b) ≡ length_of form b = form_length form b in
      let p : eqb (length (stored_form form b)) 0 ≡ false = ne_eqb (length (stored_form form b)) 0 (λ e. omega arith) in
      let q : eqb (length (stored_form form b) % 512) 0 ≡ true = eq-eqb (length (stored_form form b) % 512) 0 (omega arith) in
      let r : ltb (longest form) (length (stored_form form b)) ≡ false =
      le-ltb (longest form) (length (stored_form form b)) (omega (arith, later_few form (length (records_of b)) room)) in
      ap (λ (t : Bool). t || (not (eqb (length (stored_form form b) % 512) 0) || ltb (longest form) (length (stored_form form b)))) p
      ∙ ap (λ (t : Bool). not t || ltb (longest form) (length (stored_form form b))) q
      ∙ r

  pub right_blocks : blocks_right (stored_form form b) (length (stored_form form b) / 512) ≡ true
  right_blocks =
      let e : length (stored_form form b) / 512 ≡ block_count form (length (records_of b)) = omega (arith, form_length form b) in
      let few = later_few form (length (records_of b)) room in
      ap (blocks_right (stored_form form b)) e
      ∙ form_right_lem form b (omega (arith, longest_small form)) (block_count form (length (records_of b))) (omega arith)

-- a valid book whose records the form keeps
module _ (form : Form) (b : Book) (v : Valid b) (kept : (i : ℕ) → i < length (records_of b) → Kept form (circuit (records_of b) i)) where
  fields : (i : ℕ) → i < length (records_of b) → Fields form (circuit (records_of b) i)
  fields i h =
      let g = v.circuits.given i h in
      let e = v.circuits.ends i h in
      let k = v.circuits.colours i h in
      let n = v.nodes.1 in
      let w = v.colours.1 in
      let few = v.few in
      let f = number_within (circuit (records_of b) i).way (circuit (records_of b) i).colour b.w k in
      record { serial = omega arith; first = omega arith; second = omega arith; fate = omega arith; kept = kept i h }

  pub back : book_in form (stored_form form b) ≡ b
  back =
      let n = v.nodes.1 in
      let w = v.colours.1 in
      book_back form b fields (omega arith) (omega arith) (omega (arith, v.few)) v.circuits.room ∙ sym v.form

  right_form : form_right form (stored_form form b) ≡ true
  unfolding form_right
  right_form =
      ap (λ (x : Book). book_fits x && same_bytes (stored_form form b) (stored_form form x)) back
      ∙ true_and (book_fits b) (same_bytes (stored_form form b) (stored_form form b)) (valid_fits b v) (same_refl (stored_form form b))

  pub passes : form_verdict form (stored_form form b) ≡ Ok tt
  passes = form_good form (stored_form form b) (right_length form b v.circuits.room) (right_blocks form b v.circuits.room) right_form

crews_kept : (b : Book) → Valid b → (i : ℕ) → i < length (records_of b) → Kept New (circuit (records_of b) i)
crews_kept b v i h = omega (arith, v.circuits.crews i h)

-- a file of a valid book loads unless its revision is too low
pub stored_loads : (b : Book) → Valid b → (lowest : ℕ) → loaded lowest (stored_form New b) ≡ recent_of b lowest
stored_loads b v lowest =
    load_allowed lowest (stored_form New b) (passes New b v (crews_kept b v))
    ∙ ap (λ (x : Book). recent_of x lowest) (back New b v (crews_kept b v))

pub reads_back : ReadsBack
reads_back b v lowest h = stored_loads b v lowest ∙ sym (recent_kept b lowest h)

-- a file of a valid book that loads is recent enough, and gives that book
pub loads_again : (b : Book) → Valid b → (lowest : ℕ) → (loaded lowest (stored_form New b)).answer ≡ Ok tt
    → (lowest ≤ revision b) × ((loaded lowest (stored_form New b)).book ≡ b)
loads_again b v lowest a = elim (compare (revision b) lowest) [
  | less h e ↦
      let told = sym (ap (λ (x : Loaded). x.answer) (stored_loads b v lowest ∙ sym (recent_low b lowest h))) ∙ a in
      impossible (cc)
  | not_less h e ↦ (h, ap (λ (x : Loaded). x.book) (reads_back b v lowest h))
]

pub old_reads_back : OldReadsBack
unfolding loaded_old
old_reads_back b v all =
    ap (λ (t : Verdict). load_unless Old t (stored_form Old b)) (passes Old b v (none_marked b all))
    ∙ ap (λ (x : Book). record { answer = Ok tt; book = x }) (back Old b v (none_marked b all))

-- what loads is a stored form
module _ (form : Form) (bytes : List ℕ) where
  abbrev book : Book
  book = book_in form bytes

  form_is : book ≡ book_of book.n book.w book.grants (records_of book)
  unfolding book_in
  form_is = ap (book_of (word_at (part_of bytes 0) 0) (word_at (part_of bytes 0) 2) (word_at (part_of bytes 0) 4))
      (sym (records_form (word_at (part_of bytes 0) 0) (word_at (part_of bytes 0) 2) (word_at (part_of bytes 0) 4)
      (circuits_in form bytes (min 512 (word_at (part_of bytes 0) 6)) (length bytes / 512 - 1))))

  room_is : length (records_of book) ≤ 512
  unfolding book_in
  room_is =
      let e : length (records_of book) ≡ length (circuits_in form bytes (min 512 (word_at (part_of bytes 0) 6)) (length bytes / 512 - 1)) =
      ap length (records_form (word_at (part_of bytes 0) 0) (word_at (part_of bytes 0) 2) (word_at (part_of bytes 0) 4)
      (circuits_in form bytes (min 512 (word_at (part_of bytes 0) 6)) (length bytes / 512 - 1))) in
      omega (arith, circuits_few form bytes (min 512 (word_at (part_of bytes 0) 6)) (length bytes / 512 - 1))

  grants_are : book.grants ≡ word_at (part_of bytes 0) 4
  unfolding book_in
  grants_are = refl

  few_are : bytes ≡ stored_form form book → book.grants ≤ 65535
  few_are e =
      let g = book.grants in
      let h : book.grants ≡ g % 256 + 256 * (g / 256 % 256) =
      grants_are ∙ ap (λ (l : List ℕ). word_at (part_of l 0) 4) e
      ∙ header_cells form book book.grants (word book.n ++ word book.w)
      (word (length (records_of book)) ++ word (form_mark form)) refl
      in
      omega arith

  pub form_told : form_verdict form bytes ≡ Ok tt → Valid book × (bytes ≡ stored_form form book)
  unfolding form_right
  form_told e =
      let s = and_true (book_fits book) (same_bytes bytes (stored_form form book)) (form_passed form bytes e) in
      let f : bytes ≡ stored_form form book = same_equal bytes (stored_form form book) s.1 in
      (fits_valid book s.0 form_is room_is (few_are f), f)

pub loads_only_forms : LoadsOnlyForms
loads_only_forms lowest bytes = go (form_verdict New bytes) refl
  where
    recent : (b : Book) → Valid b → bytes ≡ stored_form New b → (t : Bool) → ltb (revision b) lowest ≡ t
        → (loads : Loaded) → loads ≡ cond t (record { answer = Err RevisionLow; book = book_of 0 0 0 [] })
        (record { answer = Ok tt; book = b })
        → loads.answer ≡ Ok tt → IsForm lowest bytes loads.book
    recent b v f true e loads l a = let told = sym (ap (λ (x : Loaded). x.answer) l) ∙ a in impossible (cc)
    recent b v f false e loads l a =
        subst (λ (x : Loaded). IsForm lowest bytes x.book) (sym l) (record { valid = v; recent = ltb-false _ _ e; form = f })

    go : (t : Verdict) → form_verdict New bytes ≡ t → (loaded lowest bytes).answer ≡ Ok tt → IsForm lowest bytes
        (loaded lowest bytes).book
    go (Ok tt) e a =
        let told = form_told New bytes e in
        recent (book_in New bytes) told.0 told.1 _ refl (loaded lowest bytes) (load_allowed lowest bytes e) a
    go (Err r) e a = let told = sym (ap (λ (x : Loaded). x.answer) (load_refused lowest bytes e)) ∙ a in impossible (cc)

pub loads_only_old_forms : LoadsOnlyOldForms
unfolding loaded_old
loads_only_old_forms bytes = go (form_verdict Old bytes) (form_told Old bytes)
  where
    go : (t : Verdict) → (t ≡ Ok tt → Valid (book_in Old bytes) × (bytes ≡ stored_form Old (book_in Old bytes)))
        → (load_unless Old t bytes).answer ≡ Ok tt → IsOldForm bytes (load_unless Old t bytes).book
    go (Ok tt) told a = let t = told refl in record { valid = t.0; unmarked = read_unmarked bytes; form = t.1 }
    go (Err r) told a = impossible (cc)

-- the number behind the count tells the form
marked : (form : Form) (b : Book) → word_at (part_of (stored_form form b) 0) 8 ≡ form_mark form
marked form b =
    header_word form b (form_mark form) (word b.n ++ (word b.w ++ (word b.grants ++ word (length (records_of b))))) [] refl
    (mark_small form)
  where
    mark_small : (form : Form) → form_mark form < 65536
    mark_small Old = omega arith
    mark_small New = omega arith

pub one_form : OneForm
one_form lowest bytes e f =
    let new = ap (λ (l : List ℕ). word_at (part_of l 0) 8) (loads_only_forms lowest bytes e).form ∙ marked New (loaded lowest bytes).book in
    let old = ap (λ (l : List ℕ). word_at (part_of l 0) 8) (loads_only_old_forms bytes f).form ∙ marked Old (loaded_old bytes).book in
    let z : ◌≡◌ {A = ℕ} 2 0 = sym new ∙ old in
    omega arith

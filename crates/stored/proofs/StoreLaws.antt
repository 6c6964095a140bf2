-- The blocks of a book, one behind the other, as the walk of store leaves them in the buffer.
use Rattle.std.specs.Prelude.{Result, Ok, Err}
use Prim.Native.Nat.{ℕ, zero, suc, ◌+◌, ◌-◌, ◌*◌, ◌≤◌, ◌<◌}
use mathlib.Core.Path.{◌≡◌, refl, sym, ◌∙◌, ap}
use mathlib.Core.Bool.{Bool, true, false, cond}
use mathlib.Core.List.{List, ◌++◌, append_assoc}
use native.Mathlib.Omega.{arith}
use native.Mathlib.Numerals.{add-one}
use borrow.Author.Tests.{lt-ltb, le-ltb}
use borrow.Rule.Slice.PartMut.{put_mid}
use lib.ListN.{length, take, drop, replicate, length-append, length-take, length-drop, length-replicate}
use lib.Seq.{take_at, drop_at, drop-append-add, drop-drop}
use Rattle.ring.specs.declared.refusals.Refusal.{Refusal}
use Rattle.ring.specs.declared.refusals.Refusal.TheVariants.{BufferShort}
use Rattle.book.specs.declared.books.Book.{Book}
use Rattle.book.specs.Books.{records_of, has_marked}
use Rattle.stored.specs.declared.forms.Form.{Form}
use Rattle.stored.specs.declared.forms.Form.TheVariants.{Old}
use Rattle.stored.specs.Blocks.{block_of}
use Rattle.stored.specs.Forms.{circuits_of, contents, blocks, block_count, stored_form}
use Rattle.stored.specs.Storing.{length_of, form_answer, after_form}
use Rattle.stored.proofs.BlockLaws.{block_length}
use Rattle.stored.proofs.RecordLaws.{records_few, share_few}

pub part_length : (l : List ℕ) (start : ℕ) → start + 512 ≤ length l → length (take (start + 512 - start) (drop start l)) ≡ 512
part_length l start h = simp (length-take, length-drop) (omega arith)

module _ (form : Form) (b : Book) where
  pub contents_few : (k : ℕ) → length (contents form b k) ≤ 508
  contents_few zero = omega arith
  contents_few (suc k) = records_few form (circuits_of form b k) (share_few form b k)

  pub stored_block_length : (k : ℕ) → length (block_of k (contents form b k)) ≡ 512
  stored_block_length k = block_length k (contents form b k) (contents_few k)

  pub blocks_length : (k : ℕ) → length (blocks form b k) ≡ 512 * k
  blocks_length zero = refl
  blocks_length (suc k) =
      length-append (blocks form b k) (block_of k (contents form b k))
      ∙ (let e : length (blocks form b k) ≡ 512 * k = blocks_length k in omega (arith, stored_block_length k))

  pub form_length : length (stored_form form b) ≡ length_of form b
  unfolding stored_form
  form_length = blocks_length (block_count form (length (records_of b)))

  pub started : (front rest : List ℕ) → front ≡ blocks form b 1 → front ++ rest ≡ blocks form b 1 ++ drop 512 (front ++ rest)
  started front rest e = ap (λ (l : List ℕ). l ++ rest) e
      ∙ ap (λ (l : List ℕ). blocks form b 1 ++ l) (sym (drop_at front rest 512 (ap length e ∙ blocks_length 1)))

  -- one block more
  pub block_next : (buffer old new : List ℕ) (k : ℕ) → buffer ≡ blocks form b k ++ drop (512 * k) old → new ≡ block_of k (contents form b k)
      → put_mid (k * 512) (k * 512 + 512 - k * 512) buffer new ≡ blocks form b (k + 1) ++ drop (512 * (k + 1)) old
  block_next buffer old new k e h =
      let p : length (blocks form b k) ≡ k * 512 = omega (arith, blocks_length k) in
      let m : k * 512 + 512 - k * 512 ≡ 512 = omega arith in
      let n : 512 * k + 512 ≡ 512 * (k + 1) = omega arith in
      ap (λ (l : List ℕ). put_mid (k * 512) (k * 512 + 512 - k * 512) l new) e
      ∙ ap (λ (l : List ℕ). l ++ (new ++ drop (k * 512 + 512 - k * 512) (drop (k * 512) (blocks form b k ++ drop (512 * k) old))))
      (take_at (blocks form b k) (drop (512 * k) old) (k * 512) p)
      ∙ ap (λ (l : List ℕ). blocks form b k ++ (new ++ drop (k * 512 + 512 - k * 512) l)) (drop_at (blocks form b k) (drop (512 * k) old)
      (k * 512) p)
      ∙ ap (λ (j : ℕ). blocks form b k ++ (new ++ drop j (drop (512 * k) old))) m
      ∙ ap (λ (l : List ℕ). blocks form b k ++ (new ++ l)) (drop-drop 512 (512 * k) old ∙ ap (λ (j : ℕ). drop j old) n)
      ∙ sym (append_assoc (blocks form b k) new (drop (512 * (k + 1)) old))
      ∙ ap (λ (l : List ℕ). (blocks form b k ++ l) ++ drop (512 * (k + 1)) old) h
      ∙ ap (λ (j : ℕ). blocks form b j ++ drop (512 * (k + 1)) old) (sym (add-one k))

  -- the answers
  pub store_short : (buffer : List ℕ) → length buffer < length_of form b
      → (Err BufferShort ≡ form_answer form b buffer) × (buffer ≡ after_form form b buffer)
  unfolding form_answer after_form
  store_short buffer h = (
    sym (ap (λ (t : Bool). cond t (Err BufferShort) (Ok (length_of form b))) (lt-ltb _ _ h)),
    sym (ap (λ (t : Bool). cond t buffer (stored_form form b ++ drop (length_of form b) buffer)) (lt-ltb _ _ h)),
  )

  pub store_answer_lem : (buffer : List ℕ) (n : ℕ) → n ≡ length_of form b → length_of form b ≤ length buffer → Ok n ≡ form_answer form b buffer
  unfolding form_answer
  store_answer_lem buffer n e h = ap Ok e ∙ sym (ap (λ (t : Bool). cond t (Err BufferShort) (Ok (length_of form b))) (le-ltb _ _ h))

  pub store_done : (buffer old front : List ℕ) (k : ℕ) → k ≡ block_count form (length (records_of b)) → length_of form b ≤ length old
      → length front ≡ 512
      → buffer ≡ blocks form b k ++ drop (512 * k) (front ++ drop 512 old) → buffer ≡ after_form form b old
  unfolding after_form stored_form
  store_done buffer old front k e h f g =
      let n : 512 * k ≡ length front + (512 * k - 512) = omega arith in
      let m : 512 + (512 * k - 512) ≡ 512 * k = omega arith in
      g
      ∙ ap (λ (j : ℕ). blocks form b k ++ drop j (front ++ drop 512 old)) n
      ∙ ap (λ (l : List ℕ). blocks form b k ++ l) (drop-append-add front (drop 512 old) (512 * k - 512) ∙ drop-drop (512 * k - 512) 512 old
      ∙ ap (λ (j : ℕ). drop j old) m)
      ∙ ap (λ (j : ℕ). blocks form b j ++ drop (512 * j) old) e
      ∙ sym (ap (λ (t : Bool). cond t old (stored_form form b ++ drop (length_of form b) old)) (le-ltb _ _ h))

  pub store_copied : (old : List ℕ) → length_of form b ≤ length old → after_form form b old ≡ stored_form form b ++ drop (length_of form b) old
  unfolding after_form
  store_copied old h = ap (λ (t : Bool). cond t old (stored_form form b ++ drop (length_of form b) old)) (le-ltb _ _ h)

  -- the front of a buffer that is long enough
  pub store_front : (copy old : List ℕ) (n : ℕ) → n ≡ length_of form b → length_of form b ≤ length old → copy ≡ after_form form b old
      → take n copy ≡ stored_form form b
  store_front copy old n e h g =
      ap (λ (l : List ℕ). take n l) (g ∙ store_copied old h)
      ∙ take_at (stored_form form b) (drop (length_of form b) old) n (form_length ∙ sym e)

-- a buffer of 7,168 bytes has room for every form
module _ (form : Form) (b : Book) (small : length_of form b ≤ 7168) where
  pub form_fits : length_of form b ≤ length (replicate {A = ℕ} 7168 0)
  form_fits = omega (arith, length-replicate {A = ℕ} 7168 0)

  pub form_given : form_answer form b (replicate 7168 0) ≡ Ok (length_of form b)
  form_given = sym (store_answer_lem form b (replicate 7168 0) _ refl form_fits)

  pub given_length : (n : ℕ) → form_answer form b (replicate 7168 0) ≡ Ok n → n ≡ length_of form b
  given_length n e = let same : ◌≡◌ {A = Result ℕ Refusal} (Ok n) (Ok (length_of form b)) = sym e ∙ form_given in cc

-- the old form: refused by the ground of the call where a record is marked, and written where none is
module _ (r : Refusal) (b : Book) (buffer : List ℕ) where
  pub marked_refused : has_marked b ≡ true
      → (Err r ≡ cond (has_marked b) (Err r) (form_answer Old b buffer))
      × (buffer ≡ cond (has_marked b) buffer (after_form Old b buffer))
  marked_refused e = (
    sym (ap (λ (t : Bool). cond t (Err r) (form_answer Old b buffer)) e),
    sym (ap (λ (t : Bool). cond t buffer (after_form Old b buffer)) e),
  )

  pub unmarked_written : has_marked b ≡ false
      → (form_answer Old b buffer ≡ cond (has_marked b) (Err r) (form_answer Old b buffer))
      × (after_form Old b buffer ≡ cond (has_marked b) buffer (after_form Old b buffer))
  unmarked_written e = (
    sym (ap (λ (t : Bool). cond t (Err r) (form_answer Old b buffer)) e),
    sym (ap (λ (t : Bool). cond t buffer (after_form Old b buffer)) e),
  )

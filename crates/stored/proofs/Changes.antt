-- A stored form with one byte changed is refused by 19.
use Rattle.ring.specs.Refusals.{Verdict}
use Prim.Native.Nat.{ℕ, zero, suc, ◌+◌, ◌*◌, ◌/◌, ◌%◌, ◌≤◌, ◌<◌}
use mathlib.Core.Path.{◌≡◌, refl, sym, ◌∙◌, ap, subst}
use mathlib.Core.Bool.{Bool, true, false, ◌&&◌}
use mathlib.Core.List.{List}
use native.Mathlib.Omega.{arith}
use lib.Dec.{eqb}
use borrow.Author.Tests.{ne_eqb}
use lib.ListN.{length, get_or, take, drop, set, length-set}
use lib.Seq.{get_or-set_same, get_or-set_other, take-set-lt, take-set-le, drop-set-add, get_or-take, get_or-drop}
use Rattle.ring.proofs.Cases.{compare, less, not_less}
use Rattle.book.specs.declared.books.Book.{Book}
use Rattle.book.specs.Books.{records_of, Valid}
use Rattle.stored.specs.declared.forms.Form.{Form}
use Rattle.stored.specs.declared.forms.Form.TheVariants.{Old, New}
use Rattle.stored.specs.Blocks.{word_at, weighted, check_of, block_of}
use Rattle.stored.specs.Forms.{longest, contents, block_count, stored_form}
use Rattle.stored.specs.Reading.{part_of, block_right, blocks_right}
use Rattle.stored.specs.Loading.{length_wrong, load_unless, loaded_old}
use Rattle.stored.specs.Promises.{ChangeRefused, OldChangeRefused}
use Rattle.stored.proofs.StoreLaws.{contents_few, stored_block_length, form_length}
use Rattle.stored.proofs.FormLaws.{later_few, longest_small}
use Rattle.stored.proofs.LoadLaws.{form_check, load_refused}
use Rattle.stored.proofs.BlockReading.{block_number, block_check, check_whole}
use Rattle.stored.proofs.RoundTrip.{form_part}
use Rattle.stored.proofs.Bytes.{block_bytes}
use Rattle.stored.proofs.CheckChanges.{check_changed}
use Rattle.stored.proofs.Promised.{right_length}

-- numbers of a row with one byte changed
module _ (l : List ℕ) (j x : ℕ) where
  pub word_kept : (a : ℕ) → (a ≡ j → ⊥) → (a + 1 ≡ j → ⊥) → word_at (set l j x) a ≡ word_at l a
  word_kept a p q = ap (λ (k : ℕ). k + 256 * get_or (set l j x) (a + 1) 0) (get_or-set_other l j a x 0 p)
      ∙ ap (λ (k : ℕ). get_or l a 0 + 256 * k) (get_or-set_other l j (a + 1) x 0 q)

  pub word_changed : (a : ℕ) → j < length l → (x ≡ get_or l j 0 → ⊥) → a ≤ j → j ≤ a + 1 → word_at (set l j x) a ≡ word_at l a → ⊥
  word_changed a h different p q e =
      elim (compare a j) [
        | less u v ↦
            let m : a + 1 ≡ j = omega arith in
            let f : get_or (set l j x) a 0 ≡ get_or l a 0 = get_or-set_other l j a x 0 (λ z. omega arith) in
            let g : get_or (set l j x) (a + 1) 0 ≡ x = ap (λ (k : ℕ). get_or (set l j x) k 0) m ∙ get_or-set_same l j x 0 h in
            let o : get_or l (a + 1) 0 ≡ get_or l j 0 = ap (λ (k : ℕ). get_or l k 0) m in
            different (omega arith)
        | not_less u v ↦
            let m : a ≡ j = omega arith in
            let f : get_or (set l j x) a 0 ≡ x = ap (λ (k : ℕ). get_or (set l j x) k 0) m ∙ get_or-set_same l j x 0 h in
            let g : get_or (set l j x) (a + 1) 0 ≡ get_or l (a + 1) 0 = get_or-set_other l j (a + 1) x 0 (λ z. omega arith) in
            let o : get_or l a 0 ≡ get_or l j 0 = ap (λ (k : ℕ). get_or l k 0) m in
            different (omega arith)
      ]

wrong_number : (k : ℕ) (block : List ℕ) → (word_at block 508 ≡ k → ⊥) → block_right k block ≡ false
unfolding block_right
wrong_number k block h = ap (λ (t : Bool). t && eqb (word_at block 510) (check_of block)) (ne_eqb (word_at block 508) k h)

wrong_check : (k : ℕ) (block : List ℕ) → (word_at block 510 ≡ check_of block → ⊥) → block_right k block ≡ false
unfolding block_right
wrong_check k block h = go (eqb (word_at block 508) k)
  where
    go : (t : Bool) → (t && eqb (word_at block 510) (check_of block)) ≡ false
    go true = ne_eqb (word_at block 510) (check_of block) h
    go false = refl

-- a block of a stored form with one byte changed
module _ (form : Form) (b : Book) (k : ℕ) (small : k < 65536) (j x : ℕ) (h : j < 512) (hx : x < 256) where
  abbrev block : List ℕ
  block = block_of k (contents form b k)

  checked : word_at block 510 ≡ check_of block
  checked = block_check k (contents form b k) (contents_few form b k) ∙ sym (check_whole k (contents form b k) (contents_few form b k))

  kept_check : 510 ≤ j → check_of (set block j x) ≡ check_of block
  unfolding check_of
  kept_check p = ap (λ (l : List ℕ). weighted 0 l % 65521) (take-set-le 510 block j x p)

  pub changed_block : (x ≡ get_or block j 0 → ⊥) → block_right k (set block j x) ≡ false
  changed_block different =
      let n : length block ≡ 512 = stored_block_length form b k in
      let y : get_or block j 0 < 256 = block_bytes form b k j in
      elim (compare j 508) [
        | less u v ↦
            wrong_check k (set block j x) (λ e.
            check_changed block j x n u hx y different (sym e ∙ word_kept block j x 510 (λ z. omega arith) (λ z. omega arith) ∙ checked))
        | not_less u v ↦
            elim (compare j 510) [
              | less p q ↦
                  wrong_number k (set block j x) (λ e.
                  word_changed block j x 508 (omega arith) different u (omega arith) (e
                  ∙ sym (block_number k (contents form b k) (contents_few form b k) small)))
              | not_less p q ↦
                  wrong_check k (set block j x) (λ e.
                  word_changed block j x 510 (omega arith) different p (omega arith) (e ∙ kept_check p ∙ sym checked))
            ]
      ]

-- one wrong block is enough
one_wrong : (bytes : List ℕ) (k m : ℕ) → k < m → block_right k (part_of bytes k) ≡ false → blocks_right bytes m ≡ false
one_wrong bytes k zero h e = absurd (omega arith)
one_wrong bytes k (suc m) h e =
    elim (compare k m) [
      | less u v ↦ ap (λ (t : Bool). t && block_right m (part_of bytes m)) (one_wrong bytes k m u e)
      | not_less u v ↦
          let q : k ≡ m = omega arith in
          last (blocks_right bytes m) (block_right m (part_of bytes m)) (subst (λ (i : ℕ). block_right i (part_of bytes i) ≡ false) q e)
    ]
  where
    last : (s t : Bool) → t ≡ false → (s && t) ≡ false
    last true t f = f
    last false t f = refl

part_changed : (l : List ℕ) (k j x : ℕ) → j < 512 → part_of (set l (k * 512 + j) x) k ≡ set (part_of l k) j x
part_changed l k j x h = ap (take 512) (drop-set-add (k * 512) l j x) ∙ take-set-lt 512 (drop (k * 512) l) j x h

part_at : (l : List ℕ) (k j : ℕ) → j < 512 → get_or (part_of l k) j 0 ≡ get_or l (k * 512 + j) 0
part_at l k j h = get_or-take 512 (drop (k * 512) l) j 0 h ∙ get_or-drop (k * 512) l j 0

-- a load whose length is right finds it
module _ (form : Form) (b : Book) (v : Valid b) (i x : ℕ) (h : i < length (stored_form form b)) (hx : x < 256)
    (different : x ≡ get_or (stored_form form b) i 0 → ⊥) where
  abbrev changed : List ℕ
  changed = set (stored_form form b) i x

  pub changed_length : length_wrong form (length changed) ≡ false
  changed_length = ap (length_wrong form) (length-set (stored_form form b) i x) ∙ right_length form b v.circuits.room

  pub changed_wrong : blocks_right changed (length changed / 512) ≡ false
  changed_wrong =
      let room = v.circuits.room in
      let n : length changed ≡ length (stored_form form b) = length-set (stored_form form b) i x in
      let e : i / 512 * 512 + i % 512 ≡ i = omega arith in
      let c : i / 512 < block_count form (length (records_of b)) = omega (arith, form_length form b) in
      let few : 512 * block_count form (length (records_of b)) ≤ longest form = later_few form (length (records_of b)) room in
      let f : part_of changed (i / 512) ≡ set (block_of (i / 512) (contents form b (i / 512))) (i % 512) x =
      ap (λ (m : ℕ). part_of (set (stored_form form b) m x) (i / 512)) (sym e)
      ∙ part_changed (stored_form form b) (i / 512) (i % 512) x (omega arith)
      ∙ ap (λ (l : List ℕ). set l (i % 512) x) (form_part form b (i / 512) c)
      in
      let g : get_or (block_of (i / 512) (contents form b (i / 512))) (i % 512) 0 ≡ get_or (stored_form form b) i 0 =
      ap (λ (l : List ℕ). get_or l (i % 512) 0) (sym (form_part form b (i / 512) c))
      ∙ part_at (stored_form form b) (i / 512) (i % 512) (omega arith)
      ∙ ap (λ (m : ℕ). get_or (stored_form form b) m 0) e
      in
      let w : block_right (i / 512) (part_of changed (i / 512)) ≡ false =
      ap (block_right (i / 512)) f
      ∙ changed_block form b (i / 512) (omega (arith, longest_small form)) (i % 512) x (omega arith) hx (λ p. different (p ∙ g))
      in
      one_wrong changed (i / 512) (length changed / 512) (omega (arith, form_length form b)) w

pub change_refused : ChangeRefused
change_refused b v lowest i x h hx different =
    load_refused lowest _ (form_check New _ (changed_length New b v i x h hx different) (changed_wrong New b v i x h hx different))

pub old_change_refused : OldChangeRefused
unfolding loaded_old
old_change_refused b v i x h hx different =
    ap (λ (t : Verdict). load_unless Old t (set (stored_form Old b) i x))
    (form_check Old _ (changed_length Old b v i x h hx different) (changed_wrong Old b v i x h hx different))

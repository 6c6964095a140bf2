-- A stored book is read back.
use Prim.Native.Nat.{ℕ, zero, suc, ◌+◌, ◌-◌, ◌*◌, ◌/◌, ◌%◌, ◌≤◌, ◌<◌, min}
use mathlib.Core.Path.{◌≡◌, refl, sym, ◌∙◌, ap, subst}
use mathlib.Core.Bool.{Bool, true, ◌&&◌}
use mathlib.Core.List.{List, [], ◌++◌, append_assoc}
use native.Mathlib.Omega.{arith}
use lib.ListN.{length, take, drop, length-take, length-drop}
use lib.Seq.{drop_at, take_all, take-add, take-append-le, drop-append-le, get_or-take, get_or-drop}
use Rattle.ring.proofs.Cases.{compare, less, not_less}
use Rattle.book.specs.declared.circuits.Circuit.{Circuit}
use Rattle.book.specs.declared.books.Book.{Book}
use Rattle.book.specs.Circuits.{vacant, circuit}
use Rattle.book.specs.Books.{records_of, book_of}
use Rattle.stored.specs.declared.forms.Form.{Form}
use Rattle.stored.specs.Blocks.{word, word_at, block_of}
use Rattle.stored.specs.Forms.{block_records, form_mark, records_bytes, header_bytes, first_record, circuits_of, contents, blocks}
use Rattle.stored.specs.Forms.{later_blocks, block_count, stored_form}
use Rattle.stored.specs.Reading.{part_of, block_right, blocks_right, records_in, circuits_in, book_in}
use Rattle.stored.proofs.FormLaws.{first_none, first_next, later_all}
use Rattle.stored.proofs.RecordLaws.{share}
use Rattle.stored.proofs.StoreLaws.{contents_few, stored_block_length, blocks_length, form_length}
use Rattle.stored.proofs.BlockReading.{Fields, word_back, word_cells, behind, block_front, block_is_right, records_back}

module _ (form : Form) (b : Book) where
  -- each block stands in its own place
  pub part_back : (m k : ℕ) → k < m → part_of (blocks form b m) k ≡ block_of k (contents form b k)
  part_back zero k h = absurd (omega arith)
  part_back (suc m) k h =
      elim (compare k m) [
        | less l e ↦
            let r : k * 512 ≤ length (blocks form b m) = omega (arith, blocks_length form b m) in
            let s : 512 ≤ length (drop (k * 512) (blocks form b m)) = omega (
              arith,
              blocks_length form b m,
              length-drop (k * 512)
                  (blocks form b m),
            ) in
            ap (take 512) (drop-append-le (k * 512) (blocks form b m) (block_of m (contents form b m)) r)
            ∙ take-append-le 512 (drop (k * 512) (blocks form b m)) (block_of m (contents form b m)) s
            ∙ part_back m k l
        | not_less l e ↦
            let q : m ≡ k = omega arith in
            let r : length (blocks form b m) ≡ k * 512 = omega (arith, blocks_length form b m) in
            ap (take 512) (drop_at (blocks form b m) (block_of m (contents form b m)) (k * 512) r)
            ∙ take_all 512 (block_of m (contents form b m)) (omega (arith, stored_block_length form b m))
            ∙ ap (λ (j : ℕ). block_of j (contents form b j)) q
      ]

  abbrev count : ℕ
  count = block_count form (length (records_of b))

  pub form_part : (k : ℕ) → k < count → part_of (stored_form form b) k ≡ block_of k (contents form b k)
  unfolding stored_form
  form_part k h = part_back count k h

  -- block numbers and checks
  pub form_right_lem : count < 65536 → (m : ℕ) → m ≤ count → blocks_right (stored_form form b) m ≡ true
  form_right_lem c zero h = refl
  form_right_lem c (suc m) h =
      ap (λ (t : Bool). t && block_right m (part_of (stored_form form b) m)) (form_right_lem c m (omega arith))
      ∙ ap (block_right m) (form_part m (omega arith))
      ∙ block_is_right m (contents form b m) (contents_few form b m) (omega arith)

  -- the circuits
  pub circuits_back : ((i : ℕ) → i < length (records_of b) → Fields form (circuit (records_of b) i)) → (k : ℕ) → k < count
      → circuits_in form (stored_form form b) (length (records_of b)) k ≡ take (first_record form k) (records_of b)
  circuits_back f zero h = sym (ap (λ (j : ℕ). take j (records_of b)) (first_none form))
  circuits_back f (suc k) h =
      let m : min (block_records form) (length (records_of b) - length (take (first_record form k) (records_of b))) ≡ length
      (circuits_of form b k) =
      omega (arith, share form b k, length-take (first_record form k) (records_of b)) in
      let n : first_record form k + block_records form ≡ first_record form (suc k) = first_next form k in
      ap (λ (cs : List Circuit). cs ++ records_in form (part_of (stored_form form b) (suc k)) (min (block_records form) (length
      (records_of b) - length cs)))
      (circuits_back f k (omega arith))
      ∙ ap (λ (l : List ℕ).
      take (first_record form k) (records_of b) ++ records_in form l (min (block_records form) (length (records_of b) - length (take
      (first_record form k) (records_of b)))))
      (form_part (suc k) h)
      ∙ ap (λ (j : ℕ). take (first_record form k) (records_of b) ++ records_in form (block_of (suc k) (records_bytes form
      (circuits_of form b k))) j) m
      ∙ ap (λ (cs : List Circuit). take (first_record form k) (records_of b) ++ cs)
      (records_back form (suc k) (circuits_of form b k) (of_share k f) (length (circuits_of form b k)) (omega arith)
      ∙ take_all (length (circuits_of form b k)) (circuits_of form b k) (omega arith))
      ∙ sym (take-add (first_record form k) (block_records form) (records_of b))
      ∙ ap (λ (j : ℕ). take j (records_of b)) n
    where
      of_share : (k : ℕ) → ((i : ℕ) → i < length (records_of b) → Fields form (circuit (records_of b) i)) → (i : ℕ)
          → i < length (circuits_of form b k) → Fields form (circuit (circuits_of form b k) i)
      of_share k f i h =
          let e : circuit (circuits_of form b k) i ≡ circuit (records_of b) (first_record form k + i) =
          get_or-take (block_records form) (drop (first_record form k) (records_of b)) i vacant (omega (arith, share form b k))
          ∙ get_or-drop (first_record form k) (records_of b) i vacant in
          subst (Fields form) (sym e) (f (first_record form k + i) (omega (arith, share form b k)))

  -- the header
  module _ (x : ℕ) (u v : List ℕ) (e : header_bytes form b ≡ u ++ (word x ++ v)) where
    pub header_cells : word_at (part_of (stored_form form b) 0) (length u) ≡ x % 256 + 256 * (x / 256 % 256)
    header_cells =
        let z : length u ≡ 0 + length u = omega arith in
        ap (λ (l : List ℕ). word_at l (length u)) (form_part 0 (omega arith) ∙ block_front 0 (header_bytes form b)
        ∙ ap (λ (l : List ℕ). l ++ behind 0 (header_bytes form b)) e ∙ append_assoc u (word x ++ v) (behind 0 (header_bytes form b)))
        ∙ ap (word_at (u ++ ((word x ++ v) ++ behind 0 (header_bytes form b)))) z
        ∙ word_cells [] u (v ++ behind 0 (header_bytes form b)) 0 refl (x % 256) (x / 256 % 256)

    pub header_word : x < 65536 → word_at (part_of (stored_form form b) 0) (length u) ≡ x
    header_word h = header_cells ∙ word_back x h

  pub book_back : ((i : ℕ) → i < length (records_of b) → Fields form (circuit (records_of b) i)) → b.n < 65536 → b.w < 65536
      → b.grants < 65536
      → length (records_of b) ≤ 512
      → book_in form (stored_form form b) ≡ book_of b.n b.w b.grants (records_of b)
  unfolding book_in
  book_back f hn hw hg hl =
      let n : word_at (part_of (stored_form form b) 0) 0 ≡ b.n =
      header_word b.n [] (word b.w ++ (word b.grants ++ (word (length (records_of b)) ++ word (form_mark form)))) refl hn in
      let w : word_at (part_of (stored_form form b) 0) 2 ≡ b.w =
      header_word b.w (word b.n) (word b.grants ++ (word (length (records_of b)) ++ word (form_mark form))) refl hw in
      let g : word_at (part_of (stored_form form b) 0) 4 ≡ b.grants =
      header_word b.grants (word b.n ++ word b.w) (word (length (records_of b)) ++ word (form_mark form)) refl hg in
      let l : word_at (part_of (stored_form form b) 0) 6 ≡ length (records_of b) =
      header_word (length (records_of b)) (word b.n ++ (word b.w ++ word b.grants)) (word (form_mark form)) refl (omega arith) in
      let m : min 512 (word_at (part_of (stored_form form b) 0) 6) ≡ length (records_of b) = omega arith in
      let k : length (stored_form form b) / 512 - 1 ≡ later_blocks form (length (records_of b)) = omega (arith, form_length form b) in
      let c : circuits_in form (stored_form form b) (min 512 (word_at (part_of (stored_form form b) 0) 6)) (length
      (stored_form form b) / 512 - 1) ≡ records_of b =
      ap (λ (j : ℕ). circuits_in form (stored_form form b) j (length (stored_form form b) / 512 - 1)) m
      ∙ ap (circuits_in form (stored_form form b) (length (records_of b))) k
      ∙ circuits_back f (later_blocks form (length (records_of b))) (omega arith)
      ∙ take_all (first_record form (later_blocks form (length (records_of b)))) (records_of b) (later_all form (length (records_of b)))
      in
      ap (λ (j : ℕ). book_of j (word_at (part_of (stored_form form b) 0) 2) (word_at (part_of (stored_form form b) 0) 4)
      (circuits_in form (stored_form form b) (min 512 (word_at (part_of (stored_form form b) 0) 6)) (length (stored_form form b) / 512 - 1))) n
      ∙ ap (λ (j : ℕ). book_of b.n j (word_at (part_of (stored_form form b) 0) 4)
      (circuits_in form (stored_form form b) (min 512 (word_at (part_of (stored_form form b) 0) 6)) (length (stored_form form b) / 512 - 1))) w
      ∙ ap (λ (j : ℕ). book_of b.n b.w j
      (circuits_in form (stored_form form b) (min 512 (word_at (part_of (stored_form form b) 0) 6)) (length (stored_form form b) / 512 - 1))) g
      ∙ ap (book_of b.n b.w b.grants) c

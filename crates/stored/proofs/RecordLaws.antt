-- The records of a later block, one behind the other.
use Prim.Native.Nat.{ℕ, zero, suc, ◌+◌, ◌-◌, ◌≤◌, ◌<◌, min}
use mathlib.Core.Path.{◌≡◌, refl, sym, ◌∙◌, ap}
use mathlib.Core.List.{List, [], ◌∷◌, ◌++◌, append_assoc, append-nil}
use native.Mathlib.Omega.{arith}
use native.Mathlib.Numerals.{add-one}
use lib.ListN.{length, get_or, take, drop, length-append, length-take, length-drop}
use lib.Seq.{take-suc, take_all, get_or-take, get_or-drop, length-take-le}
use Rattle.book.specs.declared.circuits.Circuit.{Circuit}
use Rattle.book.specs.declared.books.Book.{Book}
use Rattle.book.specs.Circuits.{vacant}
use Rattle.book.specs.Books.{records_of}
use Rattle.ring.specs.Buffers.{written}
use Rattle.stored.specs.declared.forms.Form.{Form}
use Rattle.stored.specs.Blocks.{block_of}
use Rattle.stored.specs.Internal.Handing.{sealed}
use Rattle.stored.specs.Forms.{block_records, record_bytes, records_bytes, first_record, circuits_of, contents}
use Rattle.stored.specs.Reading.{record_place}
use Rattle.stored.proofs.Lists.{pad, pad_written}
use Rattle.stored.proofs.BlockLaws.{sealed_pad}
use Rattle.stored.proofs.FormLaws.{record_length, place_none, place_next, places_fit, place_fits}

module _ (form : Form) where
  pub records_append : (xs ys : List Circuit) → records_bytes form (xs ++ ys) ≡ records_bytes form xs ++ records_bytes form ys
  records_append [] ys = refl
  records_append (c ∷ xs) ys =
      ap (λ (l : List ℕ). record_bytes form c ++ l) (records_append xs ys)
      ∙ sym (append_assoc (record_bytes form c) (records_bytes form xs) (records_bytes form ys))

  pub records_length : (xs : List Circuit) → length (records_bytes form xs) ≡ record_place form (length xs)
  records_length [] = sym (place_none form)
  records_length (c ∷ xs) =
      let h : length (records_bytes form xs) ≡ record_place form (length xs) = records_length xs in
      length-append (record_bytes form c) (records_bytes form xs)
      ∙ ap (λ (k : ℕ). k + length (records_bytes form xs)) (record_length form c)
      ∙ omega (arith, place_next form (length xs))

  pub records_few : (xs : List Circuit) → length xs ≤ block_records form → length (records_bytes form xs) ≤ 508
  records_few xs h = omega (arith, records_length xs, places_fit form (length xs) h)

  pub taken_length : (rs : List Circuit) (i : ℕ) → i ≤ length rs → length (records_bytes form (take i rs)) ≡ record_place form i
  taken_length rs i h = records_length (take i rs) ∙ ap (record_place form) (length-take-le i rs h)

  records_next : (rs : List Circuit) (i : ℕ) → i < length rs
      → records_bytes form (take i rs) ++ record_bytes form (get_or rs i vacant) ≡ records_bytes form (take (i + 1) rs)
  records_next rs i h =
      sym (ap (λ (k : ℕ). records_bytes form (take k rs)) (add-one i) ∙ ap (records_bytes form) (take-suc rs i vacant h)
      ∙ records_append (take i rs) (get_or rs i vacant ∷ [])
      ∙ ap (λ (l : List ℕ). records_bytes form (take i rs) ++ l) (append-nil (record_bytes form (get_or rs i vacant))))

  -- one record more in a block
  pub record_next : (rs : List Circuit) (i : ℕ) (block : List ℕ) → i < length rs → length rs ≤ block_records form
      → block ≡ pad (records_bytes form (take i rs))
      → written block (record_place form i) (record_bytes form (get_or rs i vacant)) ≡ pad (records_bytes form (take (i + 1) rs))
  record_next rs i block h few e =
      ap (λ (l : List ℕ). written l (record_place form i) (record_bytes form (get_or rs i vacant))) e
      ∙ pad_written (records_bytes form (take i rs)) (record_bytes form (get_or rs i vacant)) (record_place form i)
      (taken_length rs i (omega arith)) (omega (arith, place_fits form i (omega arith), record_length form (get_or rs i vacant)))
      ∙ ap pad (records_next rs i h)

  -- all of them
  pub records_sealed : (number : ℕ) (rs : List Circuit) (i : ℕ) (block : List ℕ) → length rs ≤ i → length rs ≤ block_records form
      → block ≡ pad (records_bytes form (take i rs)) → sealed number block ≡ block_of number (records_bytes form rs)
  records_sealed number rs i block h few e =
      ap (sealed number) (e ∙ ap (λ (xs : List Circuit). pad (records_bytes form xs)) (take_all i rs h))
      ∙ sealed_pad number (records_bytes form rs) (records_few rs few)

module _ (form : Form) (b : Book) (k : ℕ) where
  pub share : length (circuits_of form b k) ≡ min (block_records form) (length (records_of b) - first_record form k)
  share = length-take (block_records form) (drop (first_record form k) (records_of b))
      ∙ ap (min (block_records form)) (length-drop (first_record form k) (records_of b))

  pub share_few : length (circuits_of form b k) ≤ block_records form
  share_few = omega (arith, share)

  pub share_at : (i : ℕ) → i < length (circuits_of form b k)
      → get_or (circuits_of form b k) i vacant ≡ get_or b.places (first_record form k + i) vacant
  share_at i h =
      let l : first_record form k + i < b.records = omega (arith, share, length-take b.records b.places) in
      get_or-take (block_records form) (drop (first_record form k) (records_of b)) i vacant (omega (arith, share))
      ∙ get_or-drop (first_record form k) (records_of b) i vacant
      ∙ get_or-take b.records b.places (first_record form k + i) vacant l

pub later_contents : (form : Form) (b : Book) (number : ℕ) → 1 ≤ number
    → contents form b number ≡ records_bytes form (circuits_of form b (number - 1))
later_contents form b zero h = absurd (omega arith)
later_contents form b (suc k) h =
    let e : k ≡ suc k - 1 = omega arith in
    ap (λ (j : ℕ). records_bytes form (circuits_of form b j)) e

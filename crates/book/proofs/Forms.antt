-- What the operations are on books in their one form: on the list of records.
use Prim.Native.Nat.{ℕ, suc, ◌+◌, ◌-◌, ◌≤◌, ◌<◌}
use mathlib.Core.Path.{◌≡◌, sym, ◌∙◌, ap}
use mathlib.Core.List.{List, [], ◌∷◌, ◌++◌}
use native.Mathlib.Omega.{arith}
use lib.ListN.{length, drop, set, replicate, length-append, length-take, length-drop, length-set}
use lib.Seq.{take-append_seam, drop-append_seam, set-append_seam, set-append_left, append_snoc}
use Rattle.book.specs.declared.circuits.Circuit.{Circuit}
use Rattle.book.specs.declared.books.Book.{Book}
use Rattle.book.specs.Circuits.{vacant}
use Rattle.book.specs.Books.{records_of, book_of, Valid}
use Rattle.book.specs.Grants.{with_circuit}
use Rattle.book.specs.Removals.{with_record}
use Rattle.book.specs.Confirmations.{without, without_circuit}

abbrev with_records : Book → ℕ → List Circuit → Book
with_records b m ps = record { n = b.n; w = b.w; grants = b.grants; records = m; places = ps }

pub length_without : (i : ℕ) (cs : List Circuit) → i < length cs → length (without i cs) ≡ length cs - 1
length_without i cs h = simp (length-append, length-take, length-drop) (omega arith)

module _ (n w g : ℕ) (cs : List Circuit) where
  pub records_form : records_of (book_of n w g cs) ≡ cs
  records_form = take-append_seam cs (replicate (512 - length cs) vacant)

  pub grant_form : (c : Circuit) → length cs < 512 → with_circuit (book_of n w g cs) c ≡ book_of n w (g + 1) (cs ++ (c ∷ []))
  grant_form c h =
      let l : length (cs ++ (c ∷ [])) ≡ length cs + 1 = length-append cs (c ∷ []) in
      let m : 512 - length cs ≡ suc (512 - length (cs ++ (c ∷ []))) = omega (arith, l) in
      let p : set (cs ++ replicate (512 - length cs) vacant) (length cs) c ≡ (cs ++ (c ∷ []))
      ++ replicate (512 - length (cs ++ (c ∷ []))) vacant =
      ap (λ (k : ℕ). set (cs ++ replicate k vacant) (length cs) c) m
      ∙ set-append_seam cs vacant (replicate (512 - length (cs ++ (c ∷ []))) vacant) c
      ∙ sym (append_snoc cs c (replicate (512 - length (cs ++ (c ∷ []))) vacant))
      in
      ap (λ (ps : List Circuit). with_records (book_of n w (g + 1) cs) (length cs + 1) ps) p
      ∙ ap (λ (k : ℕ). with_records (book_of n w (g + 1) cs) k ((cs ++ (c ∷ [])) ++ replicate (512 - length (cs ++ (c ∷ []))) vacant))
      (sym l)

  pub remove_form : (i : ℕ) (c : Circuit) → i < length cs → with_record i c (book_of n w g cs) ≡ book_of n w g (set cs i c)
  remove_form i c h =
      let l : length (set cs i c) ≡ length cs = length-set cs i c in
      ap (with_records (book_of n w g cs) (length cs)) (set-append_left cs (replicate (512 - length cs) vacant) i c h)
      ∙ ap (λ (k : ℕ). with_records (book_of n w g cs) k (set cs i c ++ replicate (512 - k) vacant)) (sym l)

  pub confirm_form : (i : ℕ) → i < length cs → length cs ≤ 512 → without_circuit i (book_of n w g cs) ≡ book_of n w g (without i cs)
  confirm_form i h k =
      let l : length (without i cs) ≡ length cs - 1 = length_without i cs h in
      let m : suc (512 - length cs) ≡ 512 - length (without i cs) = omega (arith, l) in
      let p : without i (records_of (book_of n w g cs)) ++ (vacant ∷ drop (length cs) (cs ++ replicate (512 - length cs) vacant))
      ≡ without i cs ++ replicate (512 - length (without i cs)) vacant =
      ap (λ (xs : List Circuit). without i xs ++ (vacant ∷ drop (length cs) (cs ++ replicate (512 - length cs) vacant))) records_form
      ∙ ap (λ (xs : List Circuit). without i cs ++ (vacant ∷ xs)) (drop-append_seam cs (replicate (512 - length cs) vacant))
      ∙ ap (λ (j : ℕ). without i cs ++ replicate j vacant) m
      in
      ap (λ (ps : List Circuit). with_records (book_of n w g cs) (length (records_of (book_of n w g cs)) - 1) ps) p
      ∙ ap (λ (xs : List Circuit).
      with_records (book_of n w g cs) (length xs - 1) (without i cs ++ replicate (512 - length (without i cs)) vacant)) records_form
      ∙ ap (λ (j : ℕ). with_records (book_of n w g cs) j (without i cs ++ replicate (512 - length (without i cs)) vacant)) (sym l)

-- the same of any valid book
module _ (b : Book) (v : Valid b) where
  pub valid_records : b.records ≡ length (records_of b)
  valid_records = ap (λ (x : Book). x.records) v.form

  pub with_form : (c : Circuit) → length (records_of b) < 512
      → with_circuit b c ≡ book_of b.n b.w (b.grants + 1) (records_of b ++ (c ∷ []))
  with_form c h = ap (λ (x : Book). with_circuit x c) v.form ∙ grant_form b.n b.w b.grants (records_of b) c h

  pub without_form : (i : ℕ) → i < length (records_of b) → without_circuit i b ≡ book_of b.n b.w b.grants (without i (records_of b))
  without_form i h = ap (without_circuit i) v.form ∙ confirm_form b.n b.w b.grants (records_of b) i h v.circuits.room

  pub record_form : (i : ℕ) (c : Circuit) → i < length (records_of b)
      → with_record i c b ≡ book_of b.n b.w b.grants (set (records_of b) i c)
  record_form i c h = ap (with_record i c) v.form ∙ remove_form b.n b.w b.grants (records_of b) i c h

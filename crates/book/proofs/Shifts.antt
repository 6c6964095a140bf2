-- A confirmation moves the later circuits down by one.
use Prim.Native.Nat.{ℕ, suc, ◌+◌, ◌-◌, ◌≤◌, ◌<◌}
use mathlib.Core.Path.{◌≡◌, sym, ◌∙◌, ap}
use mathlib.Core.List.{List, ◌∷◌, ◌++◌}
use native.Mathlib.Omega.{arith}
use lib.ListN.{length, take, drop, get_or, set, length-drop}
use lib.Seq.{drop-cons, length_paste_head, take-take, set_at}
use Rattle.std.specs.List.{copy_within}
use Rattle.std.proofs.lemmas.List.{drop-take}
use Rattle.book.specs.declared.circuits.Circuit.{Circuit}
use Rattle.book.specs.declared.books.Book.{Book}
use Rattle.book.specs.Circuits.{vacant}
use Rattle.book.specs.Books.{records_of}
use Rattle.book.specs.Confirmations.{without}
use Rattle.book.proofs.Places.{records_take, records_drop, records_fit}

-- of the first n places those behind place `at` move down, and the last of them gets v
module _ (xs : List Circuit) (n at : ℕ) (h : n ≤ length xs) (g : at < n) where
  moved : (v : Circuit) → set (copy_within xs (at + 1) n at) (n - 1) v ≡ without at (take n xs) ++ (v ∷ drop n xs)
  moved v =
      let count : ℕ = n - (at + 1) in
      let later : List Circuit = take count (drop (at + 1) xs) in
      let e₁ : at + count ≡ n - 1 = omega arith in
      let e₂ : suc (n - 1) ≡ n = omega arith in
      let e₃ : at + 1 + count ≡ n = omega arith in
      let last : drop (at + count) xs ≡ get_or xs (n - 1) v ∷ drop n xs =
      ap (λ (m : ℕ). drop m xs) e₁ ∙ drop-cons xs (n - 1) v (omega arith) ∙ ap (λ (m : ℕ). get_or xs (n - 1) v ∷ drop m xs) e₂ in
      let long : length (take at xs ++ later) ≡ n - 1 =
      length_paste_head xs at (drop (at + 1) xs) count (omega arith) (omega (arith, length-drop (at + 1) xs)) ∙ e₁ in
      let behind : later ≡ drop (at + 1) (take n xs) =
      sym (drop-take (at + 1) count xs) ∙ ap (λ (m : ℕ). drop (at + 1) (take m xs)) e₃ in
      ap (λ (r : List Circuit). set (take at xs ++ later ++ r) (n - 1) v) last
      ∙ set_at (take at xs ++ later) (get_or xs (n - 1) v) (drop n xs) v (n - 1) long
      ∙ ap (λ (r : List Circuit). take at xs ++ r ++ (v ∷ drop n xs)) behind
      ∙ ap (λ (r : List Circuit). r ++ drop (at + 1) (take n xs) ++ (v ∷ drop n xs)) (sym (take-take at n xs (omega arith)))

-- the places of a book without a record
pub gap_closed : (b : Book) (at : ℕ) → at < length (records_of b)
    → set (copy_within b.places (at + 1) (length (records_of b)) at) (length (records_of b) - 1) vacant
    ≡ without at (records_of b) ++ (vacant ∷ drop b.records b.places)
gap_closed b at g =
    moved b.places (length (records_of b)) at (records_fit b) g vacant
    ∙ ap (λ (ys : List Circuit). without at ys ++ (vacant ∷ drop (length (records_of b)) b.places)) (records_take b)
    ∙ ap (λ (ys : List Circuit). without at (records_of b) ++ (vacant ∷ ys)) (records_drop b)

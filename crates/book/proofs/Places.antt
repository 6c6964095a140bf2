-- The records of a book, as a walk over its places sees them.
use Prim.Native.Nat.{ℕ, zero, suc, ◌+◌, ◌≤◌, ◌<◌, min}
use mathlib.Core.Path.{◌≡◌, refl, sym, ◌∙◌, ap}
use mathlib.Core.List.{List, [], ◌∷◌}
use native.Mathlib.Omega.{arith}
use native.Mathlib.Numerals.{add-one}
use lib.ListN.{length, take, drop, get_or, length-take, drop_of_length-le}
use lib.Seq.{drop-cons, get_or-take}
use Rattle.book.specs.declared.circuits.Circuit.{Circuit}
use Rattle.book.specs.declared.books.Book.{Book}
use Rattle.book.specs.Circuits.{vacant, circuit}
use Rattle.book.specs.Books.{records_of}

-- as many records as the book says, and never more than there are places
pub records_length : (b : Book) → length b.places ≡ 512 → length (records_of b) ≡ min b.records 512
records_length b e = length-take b.records b.places ∙ ap (min b.records) e

-- from a place of a list on: the circuit there, and what stands behind it
pub list_next : (cs : List Circuit) (i : ℕ) → i < length cs → drop i cs ≡ get_or cs i vacant ∷ drop (i + 1) cs
list_next cs i h = rw (add-one, drop-cons cs i vacant)

-- what stands at the place of a record, from there on, and behind the last one
pub record_at : (b : Book) (i : ℕ) → i < length (records_of b) → get_or b.places i vacant ≡ circuit (records_of b) i
record_at b i h = sym (get_or-take b.records b.places i vacant (omega (arith, length-take b.records b.places)))

pub next : (b : Book) (i : ℕ) → i < length (records_of b) → drop i (records_of b) ≡ get_or b.places i vacant ∷ drop (i + 1) (records_of b)
next b i h = rw (record_at b i h, list_next (records_of b) i h)

pub none_left : (b : Book) (i : ℕ) → length (records_of b) ≤ i → drop i (records_of b) ≡ []
none_left b i h = drop_of_length-le (records_of b) h

-- as many places as there are records, taken or dropped
count_take : (n : ℕ) (xs : List Circuit) → take (length (take n xs)) xs ≡ take n xs
count_take zero xs = refl
count_take (suc n) [] = refl
count_take (suc n) (x ∷ xs) = ap (λ (ys : List Circuit). x ∷ ys) (count_take n xs)

count_drop : (n : ℕ) (xs : List Circuit) → drop (length (take n xs)) xs ≡ drop n xs
count_drop zero xs = refl
count_drop (suc n) [] = refl
count_drop (suc n) (x ∷ xs) = count_drop n xs

pub records_take : (b : Book) → take (length (records_of b)) b.places ≡ records_of b
records_take b = count_take b.records b.places

pub records_drop : (b : Book) → drop (length (records_of b)) b.places ≡ drop b.records b.places
records_drop b = count_drop b.records b.places

pub records_fit : (b : Book) → length (records_of b) ≤ length b.places
records_fit b = omega (arith, length-take b.records b.places)

-- The place that a search for a circuit gives, and what a lookup and a question about a holder make of it.
use Prim.Native.Nat.{ℕ, suc, ◌+◌}
use mathlib.Core.Path.{◌≡◌, refl, sym, ◌∙◌, ap}
use mathlib.Core.Bool.{Bool, true, false, cond, not}
use mathlib.Core.List.{List, [], ◌∷◌}
use native.Mathlib.Omega.{arith}
use native.Mathlib.Numerals.{one-add}
use lib.Dec.{eqb, ltb}
use lib.ListN.{length, get_or}
use borrow.Author.Tests.{lt-ltb, le-ltb}
use Rattle.ring.proofs.Cases.{compare, less, not_less}
use Rattle.std.specs.Prelude.{Option, Some, None, position}
use Rattle.std.specs.List.{position_or_len}
use Rattle.std.specs.Option.{option_map}
use Rattle.std.proofs.lemmas.List.Quantifiers.{position-Some}
use Rattle.book.specs.declared.circuits.Circuit.{Circuit}
use Rattle.book.specs.declared.books.Book.{Book}
use Rattle.book.specs.declared.holders.Holder.{Holder}
use Rattle.book.specs.declared.holders.Holder.TheVariants.{Free}
use Rattle.book.specs.Circuits.{vacant, circuit, holds}
use Rattle.book.specs.Books.{records_of}
use Rattle.book.specs.Orders.{lookup_in}
use Rattle.book.specs.Holders.{told_to, holder_in}
use Rattle.book.proofs.Places.{record_at}

-- one circuit on
ltb_next : (i n : ℕ) → ltb (1 + i) (suc n) ≡ ltb i n
ltb_next i n = elim (compare i n) [
  | less l e ↦ lt-ltb (1 + i) (suc n) (omega arith) ∙ sym (lt-ltb i n l)
  | not_less l e ↦ le-ltb (1 + i) (suc n) (omega arith) ∙ sym (le-ltb i n l)
]

position_next : (p : Circuit → Bool) (c : Circuit) (cs : List Circuit)
    → position p (c ∷ cs) ≡ cond (p c) (Some 0) (option_map suc (position p cs))
position_next p c cs = go (p c)
  where
    n : ℕ
    n = position_or_len p cs

    some : (t : Bool) → cond t (Some (1 + n)) None ≡ option_map suc (cond t (Some n) None)
    some true = ap Some (one-add n)
    some false = refl

    go : (t : Bool) → cond (ltb (cond (not t) (1 + n) 0) (suc (length cs))) (Some (cond (not t) (1 + n) 0)) None
        ≡ cond t (Some 0) (option_map suc (cond (ltb n (length cs)) (Some n) None))
    go true = ap (λ (u : Bool). cond u (Some 0) None) (lt-ltb 0 (suc (length cs)) (omega arith))
    go false = ap (λ (u : Bool). cond u (Some (1 + n)) None) (ltb_next n (length cs)) ∙ some (ltb n (length cs))

-- the record at a place that was found, behind the place, counted from i
abbrev pub found_at : ℕ → List Circuit → Option ℕ → Option (ℕ × Circuit)
found_at i cs None = None
found_at i cs (Some k) = Some (i + k, circuit cs k)

pub lookup_place : (cs : List Circuit) (i s : ℕ) → lookup_in i cs s ≡ found_at i cs (position (λ c. eqb c.serial s) cs)
unfolding lookup_in
lookup_place [] i s = refl
lookup_place (c ∷ cs) i s =
    go (eqb c.serial s) (lookup_place cs (i + 1) s) ∙ ap (found_at i (c ∷ cs)) (sym (position_next (λ x. eqb x.serial s) c cs))
  where
    place : Option ℕ
    place = position (λ x. eqb x.serial s) cs

    later : (o : Option ℕ) → found_at (i + 1) cs o ≡ found_at i (c ∷ cs) (option_map suc o)
    later None = refl
    later (Some k) = let e : i + 1 + k ≡ i + suc k = omega arith in ap (λ (j : ℕ). Some (j, circuit cs k)) e

    go : (t : Bool) → lookup_in (i + 1) cs s ≡ found_at (i + 1) cs place
        → cond t (Some (i, c)) (lookup_in (i + 1) cs s) ≡ found_at i (c ∷ cs) (cond t (Some 0) (option_map suc place))
    go true e = let z : i ≡ i + 0 = omega arith in ap (λ (j : ℕ). Some (j, c)) z
    go false e = e ∙ later place

-- the record of a serial, by the place that the search gives
module _ (b : Book) (s : ℕ) where
  abbrev place : Option ℕ
  place = position (λ c. eqb c.serial s) (records_of b)

  pub lookup_none : place ≡ None → None ≡ lookup_in 0 (records_of b) s
  lookup_none e = ap (found_at 0 (records_of b)) (sym e) ∙ sym (lookup_place (records_of b) 0 s)

  pub lookup_some : (k : ℕ) → place ≡ Some k → Some (k, get_or b.places k vacant) ≡ lookup_in 0 (records_of b) s
  lookup_some k e =
      let p = position-Some (λ c. eqb c.serial s) (records_of b) k vacant e in
      let z : k ≡ 0 + k = omega arith in
      ap (λ (c : Circuit). Some (k, c)) (record_at b k p.0)
      ∙ ap (λ (j : ℕ). Some (j, circuit (records_of b) k)) z
      ∙ ap (found_at 0 (records_of b)) (sym e) ∙ sym (lookup_place (records_of b) 0 s)

-- what a crew learns of the circuit at the holder's place
abbrev pub told_at : ℕ → List Circuit → Option ℕ → Holder
told_at crew cs None = Free
told_at crew cs (Some k) = told_to crew (circuit cs k)

pub holder_place : (crew : ℕ) (cs : List Circuit) (link colour : ℕ)
    → holder_in crew cs link colour ≡ told_at crew cs (position (λ c. holds c link colour) cs)
unfolding holder_in
holder_place crew [] link colour = refl
holder_place crew (c ∷ cs) link colour =
    go (holds c link colour) (holder_place crew cs link colour)
    ∙ ap (told_at crew (c ∷ cs)) (sym (position_next (λ x. holds x link colour) c cs))
  where
    place : Option ℕ
    place = position (λ x. holds x link colour) cs

    later : (o : Option ℕ) → told_at crew cs o ≡ told_at crew (c ∷ cs) (option_map suc o)
    later None = refl
    later (Some k) = refl

    go : (t : Bool) → holder_in crew cs link colour ≡ told_at crew cs place
        → cond t (told_to crew c) (holder_in crew cs link colour) ≡ told_at crew (c ∷ cs) (cond t (Some 0) (option_map suc place))
    go true e = refl
    go false e = e ∙ later place

-- the same of a book's records
module _ (crew : ℕ) (b : Book) (link colour : ℕ) where
  abbrev held : Option ℕ
  held = position (λ c. holds c link colour) (records_of b)

  pub holder_none : held ≡ None → Free ≡ holder_in crew (records_of b) link colour
  holder_none e = ap (told_at crew (records_of b)) (sym e) ∙ sym (holder_place crew (records_of b) link colour)

  pub holder_some : (k : ℕ) → held ≡ Some k → told_to crew (get_or b.places k vacant) ≡ holder_in crew (records_of b) link colour
  holder_some k e =
      let p = position-Some (λ c. holds c link colour) (records_of b) k vacant e in
      ap (told_to crew) (record_at b k p.0)
      ∙ ap (told_at crew (records_of b)) (sym e) ∙ sym (holder_place crew (records_of b) link colour)

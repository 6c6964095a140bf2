-- The search for a serial: what is so of a place that it finds.
use Prim.Native.Nat.{ℕ, suc, ◌+◌, ◌-◌, ◌≤◌, ◌<◌}
use mathlib.Core.Path.{◌≡◌, refl, sym, ◌∙◌, ap}
use mathlib.Core.Bool.{Bool, true, false, cond}
use mathlib.Core.List.{List, [], ◌∷◌}
use native.Mathlib.Omega.{arith}
use borrow.Author.Tests.{eqb-true}
use lib.Dec.{eqb}
use lib.ListN.{length}
use Rattle.std.specs.Prelude.{Option, Some, None}
use Rattle.ring.proofs.Cases.{impossible}
use Rattle.book.specs.declared.circuits.Circuit.{Circuit}
use Rattle.book.specs.declared.books.Book.{Book}
use Rattle.book.specs.Circuits.{is_live, circuit}
use Rattle.book.specs.Books.{records_of}
use Rattle.book.specs.Orders.{never_given, lookup_in, lookup, live_found}

-- what is so of a found place i, counted from j
pub record FoundIn (cs : List Circuit) (j s i : ℕ) (c : Circuit) : Type 0 where
  pub from : j ≤ i
  pub inside : i - j < length cs
  pub there : circuit cs (i - j) ≡ c
  pub serial : c.serial ≡ s

found_first : (x : Circuit) (cs : List Circuit) (j s i : ℕ) (c : Circuit) (f : Option (ℕ × Circuit)) (t : Bool) → eqb x.serial s ≡ t
    → (f ≡ Some (i, c) → FoundIn cs (j + 1) s i c) → cond t (Some (j, x)) f ≡ Some (i, c) → FoundIn (x ∷ cs) j s i c
found_first x cs j s i c f true q k e =
    let same : ◌≡◌ {A = ℕ × Circuit} (j, x) (i, c) = cc in
    let ei : j ≡ i = ap (λ (y : ℕ × Circuit). y.0) same in
    let ec : x ≡ c = ap (λ (y : ℕ × Circuit). y.1) same in
    let z : i - j ≡ 0 = omega arith in
    record {
      from = omega arith;
      inside = omega arith;
      there = ap (circuit (x ∷ cs)) z ∙ ec;
      serial =
          ap (λ (y : Circuit). y.serial) (sym ec) ∙ eqb-true _ _ q;
    }
found_first x cs j s i c f false q k e =
    let r : FoundIn cs (j + 1) s i c = k e in
    let l : j + 1 ≤ i = r.from in
    let h : i - (j + 1) < length cs = r.inside in
    let z : i - j ≡ suc (i - (j + 1)) = omega arith in
    record { from = omega arith; inside = omega arith; there = ap (circuit (x ∷ cs)) z ∙ r.there; serial = r.serial }

pub found_in : (cs : List Circuit) (j s i : ℕ) (c : Circuit) → lookup_in j cs s ≡ Some (i, c) → FoundIn cs j s i c
unfolding lookup_in
found_in [] j s i c e = let z : ◌≡◌ {A = ℕ} 0 1 = cc in absurd (omega arith)
found_in (x ∷ cs) j s i c e = found_first x cs j s i c (lookup_in (j + 1) cs s) (eqb x.serial s) refl (found_in cs (j + 1) s i c) e

-- the same of a book: a serial that is found was given
given_cond : (t : Bool) (f : Option (ℕ × Circuit)) (i : ℕ) (c : Circuit) → cond t None f ≡ Some (i, c) → (t ≡ false) × (f ≡ Some (i, c))
given_cond true f i c e = let z : ◌≡◌ {A = ℕ} 0 1 = cc in absurd (omega arith)
given_cond false f i c e = (refl, e)

module _ (b : Book) (s i : ℕ) (c : Circuit) (e : lookup b s ≡ Some (i, c)) where
  pub found_record : FoundIn (records_of b) 0 s i c
  unfolding lookup
  found_record = found_in (records_of b) 0 s i c (given_cond (never_given b.grants s) (lookup_in 0 (records_of b) s) i c e).1

  pub found_place : i < length (records_of b)
  found_place =
      let h : i - 0 < length (records_of b) = found_record.inside in
      omega arith

  pub found_there : circuit (records_of b) i ≡ c
  found_there =
      let z : i ≡ i - 0 = omega arith in
      ap (circuit (records_of b)) z ∙ found_record.there

  pub found_serial : (circuit (records_of b) i).serial ≡ s
  found_serial = ap (λ (x : Circuit). x.serial) found_there ∙ found_record.serial

-- the live record of a serial is its record
pub live_found_lem : (b : Book) (s i : ℕ) (c : Circuit) → live_found (lookup b s) ≡ Some (i, c) → lookup b s ≡ Some (i, c)
live_found_lem b s i c e = go (lookup b s) e
  where
    same : (f : Option (ℕ × Circuit)) (t : Bool) → cond t f None ≡ Some (i, c) → f ≡ Some (i, c)
    same f true h = h
    same f false h = impossible (cc)

    go : (l : Option (ℕ × Circuit)) → live_found l ≡ Some (i, c) → l ≡ Some (i, c)
    go (Some (j, d)) h = same (Some (j, d)) (is_live d) h
    go None h = impossible (cc)

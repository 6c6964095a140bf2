-- Books without a marked record, pending or of another crew than the desk.
use Prim.Native.Nat.{ℕ, ◌<◌}
use mathlib.Core.Path.{◌≡◌, refl, sym, ◌∙◌}
use mathlib.Core.Bool.{Bool, true, false, not, ◌||◌}
use mathlib.Core.List.{List, [], ◌∷◌, ◌++◌}
use lib.Dec.{eqb}
use lib.ListN.{length}
use borrow.Author.Tests.{eqb-true}
use Rattle.ring.proofs.Cases.{is, yes, no, impossible}
use Rattle.book.specs.declared.circuits.RecordState.TheVariants.{Live}
use Rattle.book.specs.declared.circuits.Circuit.{Circuit}
use Rattle.book.specs.declared.books.Book.{Book}
use Rattle.book.specs.Circuits.{is_live, desk, is_marked, circuit, some_circuit}
use Rattle.book.specs.Books.{records_of, has_marked}
use Rattle.book.proofs.States.{live_state_lem}
use Rattle.book.proofs.CircuitLists.{place_some}

-- no circuit of two lists has the property
pub none_append : (xs ys : List Circuit) (p : Circuit → Bool) → some_circuit xs p ≡ false → some_circuit ys p ≡ false
    → some_circuit (xs ++ ys) p ≡ false
unfolding some_circuit
none_append [] ys p e f = f
none_append (x ∷ xs) ys p e f = elim (is (p x)) [
  | yes t ↦ impossible (cc)
  | no t ↦ cc (none_append xs ys p (cc) f)
]

-- a record without a mark is live and the desk's
unmarked : (c : Circuit) → is_marked c ≡ false → (c.state ≡ Live) × (c.crew ≡ desk)
unmarked c = go (is_live c) refl (eqb c.crew desk) refl
  where
    go : (t : Bool) → is_live c ≡ t → (u : Bool) → eqb c.crew desk ≡ u → (not t || not u) ≡ false → (c.state ≡ Live) × (c.crew ≡ desk)
    go false p u q e = impossible e
    go true p false q e = impossible e
    go true p true q e = (live_state_lem c.state p, eqb-true c.crew desk q)

pub none_marked : (b : Book) → has_marked b ≡ false → (i : ℕ) → i < length (records_of b)
    → ((circuit (records_of b) i).state ≡ Live) × ((circuit (records_of b) i).crew ≡ desk)
unfolding has_marked
none_marked b e i h = elim (is (is_marked (circuit (records_of b) i))) [
  | yes t ↦ impossible (sym (place_some (records_of b) is_marked i h t) ∙ e)
  | no t ↦ unmarked (circuit (records_of b) i) t
]

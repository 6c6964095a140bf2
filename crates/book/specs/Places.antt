-- The places of a book. Which place a record takes is open; it is said that no other record has it.
use Rattle.std.specs.Prelude.{ℕ, suc, ◌+◌, ◌<◌, ◌≡◌, cond, List, [], ◌∷◌, eqb, Ok, Err}
use Rattle.ring.specs.declared.refusals.Refusal.TheVariants.{BookFull}
use Rattle.book.specs.declared.circuits.Circuit.{Circuit}
use Rattle.book.specs.declared.books.Book.{Book}
use Rattle.book.specs.Circuits.{vacant, circuit}
use Rattle.book.specs.Books.{Valid}
use Rattle.book.specs.Grants.{circuit_of, granted}
use Rattle.book.specs.Removals.{removed}
use Rattle.book.specs.Confirmations.{confirmed}

-- a record takes a place that is vacant, so that no other record has it, and all others stay where they are
pub record TakesVacantPlace (before after : Book) (c : Circuit) : Type 0 where
  pub place : ℕ
  pub within : place < 512
  pub was_vacant : circuit before.places place ≡ vacant
  pub taken : circuit after.places place ≡ c
  pub others : (i : ℕ) → (i ≡ place → ⊥) → circuit after.places i ≡ circuit before.places i

-- how many places hold no circuit: no circuit has serial 0
abbrev pub vacant_places : List Circuit → ℕ
vacant_places [] = 0
vacant_places (c ∷ places) = cond (eqb c.serial 0) 1 0 + vacant_places places

-- the promise of the places
pub record PlacesPromise (b : Book) : Type 0 where
  -- "which place a record takes", "but no other record has it"
  pub takes : (x y way colour crew serial : ℕ) → (granted b x y way colour crew).answer ≡ Ok serial
      → TakesVacantPlace b (granted b x y way colour crew).book (circuit_of serial x y way colour crew)
  -- after a removal "place and colour stay held"
  pub stays : (serial : ℕ) → vacant_places (removed b serial).book.places ≡ vacant_places b.places
  -- "Confirming frees both"
  pub frees : (serial : ℕ) → (confirmed b serial).answer ≡ Ok tt
      → vacant_places (confirmed b serial).book.places ≡ suc (vacant_places b.places)
  -- "freed places are used again": the book is full only if no place is vacant
  pub full : (x y way colour crew : ℕ) → (granted b x y way colour crew).answer ≡ Err BookFull → vacant_places b.places ≡ 0

-- of every valid book
abbrev pub PlacesUsedAgain : Type 0
PlacesUsedAgain = (b : Book) → Valid b → PlacesPromise b

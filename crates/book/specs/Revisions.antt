-- The revision of a book, by which an older file of it is told from a later one.
use Rattle.std.specs.Prelude.{ℕ, ◌+◌, ◌-◌, ◌*◌, ◌≤◌, ◌≡◌, true, List, length, drop, Ok, Err}
use Rattle.ring.specs.declared.refusals.Refusal.{Refusal}
use Rattle.ring.specs.declared.refusals.Refusal.TheVariants.{SerialRemoved}
use Rattle.ring.specs.Admission.{ring_verdict}
use Rattle.book.specs.declared.circuits.Circuit.{Circuit}
use Rattle.book.specs.declared.books.Book.{Book}
use Rattle.book.specs.Books.{live_of, Valid, opened}
use Rattle.book.specs.Grants.{granted}
use Rattle.book.specs.Removals.{removed}
use Rattle.book.specs.Confirmations.{confirmed}
use Rattle.book.specs.Orders.{shown, shown_to}
use Rattle.book.specs.History.{Call, run, history, given, removals, was_removed}

-- "the revision being twice the grants less the live count"
unfoldable pub revision : Book → ℕ
revision b = 2 * b.grants - length (live_of b)

-- "which rises by one with each grant and removal", those that are accepted, and with nothing else
pub record RevisionSteps (b : Book) : Type 0 where
  pub granting : (x y way colour crew serial : ℕ) → (granted b x y way colour crew).answer ≡ Ok serial
      → revision (granted b x y way colour crew).book ≡ revision b + 1
  pub granting_refused : (x y way colour crew : ℕ) (r : Refusal) → (granted b x y way colour crew).answer ≡ Err r
      → revision (granted b x y way colour crew).book ≡ revision b
  pub removing : (serial : ℕ) → (removed b serial).answer ≡ Ok tt → revision (removed b serial).book ≡ revision b + 1
  pub removing_refused : (serial : ℕ) (r : Refusal) → (removed b serial).answer ≡ Err r
      → revision (removed b serial).book ≡ revision b
  -- whatever its answer
  pub confirming : (serial : ℕ) → revision (confirmed b serial).book ≡ revision b

-- the promise that it is so of every valid book
abbrev pub RevisionRises : Type 0
RevisionRises = (b : Book) → Valid b → RevisionSteps b

-- the promise that "with each grant and removal" is all there is to it: after every list of calls from an opening, the revision is the
-- number of the accepted grants and the accepted removals
abbrev pub RevisionCounts : Type 0
RevisionCounts = (n w : ℕ) → ring_verdict n w ≡ Ok tt → (calls : List Call)
    → revision (run (opened n w).book calls)
    ≡ length (given (history (opened n w).book calls)) + removals (history (opened n w).book calls)

-- the order is not shown: the desk is told that it was removed, and no crew gets a circuit
pub record NotShown (b : Book) (serial : ℕ) : Type 0 where
  pub desk : shown b serial ≡ Err SerialRemoved
  pub crews : (crew : ℕ) (c : Circuit) → shown_to crew b serial ≡ Ok c → ⊥

-- "never revives an order removed by that revision": of a list of calls from an opening, the latest first, two moments are taken, before
-- the last i and before the last j of them; an order removed by the one is not shown at the other, if its revision is not below
abbrev pub NotRevived : Type 0
NotRevived = (n w : ℕ) → ring_verdict n w ≡ Ok tt → (calls : List Call) (i j serial : ℕ)
    → was_removed (history (opened n w).book (drop i calls)) serial ≡ true
    → revision (run (opened n w).book (drop i calls)) ≤ revision (run (opened n w).book (drop j calls))
    → NotShown (run (opened n w).book (drop j calls)) serial

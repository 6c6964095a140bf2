-- A book kept as bytes between calls, from its opening on.
use Rattle.std.specs.Prelude.{ℕ, ◌≤◌, ◌≡◌, true, List, drop, Ok}
use Rattle.ring.specs.Admission.{ring_verdict}
use Rattle.book.specs.Books.{opened}
use Rattle.book.specs.Revisions.{revision, NotShown}
use Rattle.book.specs.History.{Call, run, history, was_removed, AfterHistory}
use Rattle.stored.specs.declared.forms.Form.TheVariants.{New}
use Rattle.stored.specs.Forms.{stored_form}
use Rattle.stored.specs.Loading.{loaded}

-- the bytes are the stored form of the book after these calls, the latest first, from the opening of a book with n nodes and w colours;
-- they load as that book, and what it answers is said of the calls and their answers
pub record StoredAfter (n w : ℕ) (calls : List Call) (bytes : List ℕ) : Type 0 where
  pub form : bytes ≡ stored_form New (run (opened n w).book calls)
  pub loads : (lowest : ℕ) → lowest ≤ revision (run (opened n w).book calls)
      → loaded lowest bytes ≡ record { answer = Ok tt; book = run (opened n w).book calls }
  pub after : AfterHistory n w (history (opened n w).book calls) (run (opened n w).book calls)

-- it is so of every list of calls from an opening
abbrev pub StoredHistories : Type 0
StoredHistories = (n w : ℕ) → ring_verdict n w ≡ Ok tt → (calls : List Call)
    → StoredAfter n w calls (stored_form New (run (opened n w).book calls))

-- "never revives an order removed by that revision": of two moments of a history, before its last i and its last j calls, an order removed
-- by the one is not shown by the file of the other, if it loads under the revision of the one as lowest
abbrev pub NeverRevives : Type 0
NeverRevives = (n w : ℕ) → ring_verdict n w ≡ Ok tt → (calls : List Call) (i j serial : ℕ)
    → was_removed (history (opened n w).book (drop i calls)) serial ≡ true
    → let file = loaded (revision (run (opened n w).book (drop i calls))) (stored_form New (run (opened n w).book (drop j calls))) in
    file.answer ≡ Ok tt → NotShown file.book serial

-- What store, load and the conversions promise together.
use Rattle.std.specs.Prelude.{ℕ, ◌≤◌, ◌<◌, ◌≡◌, false, List, [], ◌++◌, length, get_or, set, drop, Ok, Err}
use Rattle.ring.specs.declared.refusals.Refusal.TheVariants.{BlockCheck}
use Rattle.book.specs.declared.books.Book.{Book}
use Rattle.book.specs.Books.{has_marked, book_of, Valid}
use Rattle.book.specs.Revisions.{revision}
use Rattle.stored.specs.declared.forms.Form.TheVariants.{Old, New}
use Rattle.stored.specs.Forms.{stored_form}
use Rattle.stored.specs.Storing.{length_of}
use Rattle.stored.specs.Loading.{loaded, loaded_old}
use Rattle.stored.specs.Converting.{convert_answer, after_convert, back_answer, after_back}

-- "A book stored in this form reads back as itself under a lowest revision not above its own."
abbrev pub ReadsBack : Type 0
ReadsBack = (b : Book) → Valid b → (lowest : ℕ) → lowest ≤ revision b
    → loaded lowest (stored_form New b) ≡ record { answer = Ok tt; book = b }

-- one stored in the old form reads back as itself; a book with a pending record or of another crew than the desk is not stored so
abbrev pub OldReadsBack : Type 0
OldReadsBack = (b : Book) → Valid b → has_marked b ≡ false → loaded_old (stored_form Old b) ≡ record { answer = Ok tt; book = b }

-- the bytes are the stored form of a valid book, of that revision or a later one
pub record IsForm (lowest : ℕ) (bytes : List ℕ) (b : Book) : Type 0 where
  pub valid : Valid b
  pub recent : lowest ≤ revision b
  pub form : bytes ≡ stored_form New b

-- and nothing else loads
abbrev pub LoadsOnlyForms : Type 0
LoadsOnlyForms = (lowest : ℕ) (bytes : List ℕ) → (loaded lowest bytes).answer ≡ Ok tt → IsForm lowest bytes
    (loaded lowest bytes).book

-- the bytes are the old form of a valid book, all of whose records are live and the desk's
pub record IsOldForm (bytes : List ℕ) (b : Book) : Type 0 where
  pub valid : Valid b
  pub unmarked : has_marked b ≡ false
  pub form : bytes ≡ stored_form Old b

-- and nothing else loads as one
abbrev pub LoadsOnlyOldForms : Type 0
LoadsOnlyOldForms = (bytes : List ℕ) → (loaded_old bytes).answer ≡ Ok tt → IsOldForm bytes (loaded_old bytes).book

-- no bytes are of both forms: byte 8 tells them apart
abbrev pub OneForm : Type 0
OneForm = (lowest : ℕ) (bytes : List ℕ) → (loaded lowest bytes).answer ≡ Ok tt → (loaded_old bytes).answer ≡ Ok tt → ⊥

-- "Any one changed byte is refused.", by 19, whatever the lowest revision
abbrev pub ChangeRefused : Type 0
ChangeRefused = (b : Book) → Valid b → (lowest i x : ℕ) → i < length (stored_form New b) → x < 256 → (x ≡ get_or (stored_form New b) i 0 → ⊥)
    → loaded lowest (set (stored_form New b) i x) ≡ record { answer = Err BlockCheck; book = book_of 0 0 0 [] }

-- and in the old form
abbrev pub OldChangeRefused : Type 0
OldChangeRefused = (b : Book) → Valid b → (i x : ℕ) → i < length (stored_form Old b) → x < 256 → (x ≡ get_or (stored_form Old b) i 0 → ⊥)
    → loaded_old (set (stored_form Old b) i x) ≡ record { answer = Err BlockCheck; book = book_of 0 0 0 [] }

-- what becomes of an old file that loads: the new form of its book, "with crew 0 and all live"; "converting back gives the same old bytes"
pub record Converts (bytes : List ℕ) (b : Book) : Type 0 where
  pub book : loaded_old bytes ≡ record { answer = Ok tt; book = b }
  pub unmarked : has_marked b ≡ false
  pub there : (buffer : List ℕ) → length_of New b ≤ length buffer
      → (convert_answer bytes buffer ≡ Ok (length_of New b))
      × (after_convert bytes buffer ≡ stored_form New b ++ drop (length_of New b) buffer)
  pub back : (buffer : List ℕ) → length bytes ≤ length buffer
      → (back_answer (stored_form New b) buffer ≡ Ok (length bytes)) × (after_back (stored_form New b) buffer ≡ bytes ++ drop
      (length bytes) buffer)

-- "Every old file that loads converts into a long enough buffer"
abbrev pub EveryOldConverts : Type 0
EveryOldConverts = (bytes : List ℕ) → (loaded_old bytes).answer ≡ Ok tt → Converts bytes (loaded_old bytes).book

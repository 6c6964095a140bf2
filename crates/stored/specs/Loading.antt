-- Loading a book.
use Rattle.std.specs.Prelude.{ℕ, ◌/◌, ◌%◌, Bool, not, ◌&&◌, ◌||◌, List, [], eqb, ltb, length, Result, Ok, Err, ⊤}
use Rattle.ring.specs.declared.refusals.Refusal.TheVariants as ground
use Rattle.ring.specs.Refusals.{refuse_if, or_else, Verdict}
use Rattle.ring.specs.Buffers.{same_bytes}
use Rattle.ring.specs.Answers.{InNumbers, gives, refuses}
use Rattle.ring.specs.declared.refusals.Refusal.{Refusal}
use Rattle.book.specs.declared.books.Book.{Book}
use Rattle.book.specs.Books.{book_of}
use Rattle.book.specs.Revisions.{revision}
use Rattle.stored.specs.declared.forms.Form.{Form}
use Rattle.stored.specs.declared.forms.Form.TheVariants.{Old, New}
use Rattle.stored.specs.Forms.{longest, stored_form}
use Rattle.stored.specs.Reading.{blocks_right, book_in}
use Rattle.stored.specs.Validity.{book_fits}

-- "18 length 0, not a multiple of 512, or above 5,120", in the new form above 7,168
unfoldable pub length_wrong : Form → ℕ → Bool
length_wrong form n = eqb n 0 || (not (eqb (n % 512) 0) || ltb (longest form) n)

-- the bytes are the stored form of the book that they tell, and it is a valid one
unfoldable pub form_right : Form → List ℕ → Bool
form_right form bytes = book_fits (book_in form bytes) && same_bytes bytes (stored_form form (book_in form bytes))

-- 18, then "19 a wrong block number or check" in any block, then 20, "anything else that breaks the stored form"
unfoldable pub form_verdict : Form → List ℕ → Verdict
form_verdict form bytes =
    or_else (refuse_if (length_wrong form (length bytes)) ground.StoredLength)
    (or_else (refuse_if (not (blocks_right bytes (length bytes / 512))) ground.BlockCheck)
    (refuse_if (not (form_right form bytes)) ground.StoredForm))

-- "28, revision too low, last in the load of this form"
unfoldable pub load_verdict : ℕ → List ℕ → Verdict
load_verdict lowest bytes = or_else (form_verdict New bytes) (refuse_if (ltb (revision (book_in New bytes)) lowest) ground.RevisionLow)

-- what a load answers and gives
pub record Loaded : Type 0 where
  pub answer : Result ⊤ Refusal
  pub book : Book

-- a load that is refused gives a book of no nodes, which turns every call down
abbrev pub loading_of : Result Book Refusal → Loaded
loading_of (Ok b) = record { answer = Ok tt; book = b }
loading_of (Err r) = record { answer = Err r; book = book_of 0 0 0 [] }

-- the book, or none: a book of no nodes, which turns every call down
abbrev pub load_unless : Form → Verdict → List ℕ → Loaded
load_unless form (Ok tt) bytes = record { answer = Ok tt; book = book_in form bytes }
load_unless form (Err r) bytes = record { answer = Err r; book = book_of 0 0 0 [] }

-- "Loading this form is told a lowest revision"
unfoldable pub loaded : ℕ → List ℕ → Loaded
loaded lowest bytes = load_unless New (load_verdict lowest bytes) bytes

-- "Load.", of the old form
unfoldable pub loaded_old : List ℕ → Loaded
loaded_old bytes = load_unless Old (form_verdict Old bytes) bytes

-- of what the loads of the two forms answer and give, the old form's counts if it alone takes the bytes
abbrev pub new_or_old : Result ⊤ Refusal → Result ⊤ Refusal → Loaded → Loaded → Loaded
new_or_old (Ok tt) a new old = new
new_or_old (Err r) (Ok tt) new old = old
new_or_old (Err r) (Err q) new old = new

-- "A file in the old form is read too", "A file that is of neither form gets the refusal of the new one"
unfoldable pub loaded_either : List ℕ → Loaded
loaded_either bytes = new_or_old (loaded 0 bytes).answer (loaded_old bytes).answer (loaded 0 bytes) (loaded_old bytes)

-- the answer in numbers
abbrev pub load_in_numbers : Result ⊤ Refusal → InNumbers
load_in_numbers (Ok tt) = gives []
load_in_numbers (Err r) = refuses r

-- Storing a book.
use Rattle.std.specs.Prelude.{ℕ, cond, List, [], ◌∷◌, ◌++◌, ltb, length, drop, Result, Ok, Err}
use Rattle.ring.specs.declared.refusals.Refusal.TheVariants.{BufferShort, MarkedRecord}
use Rattle.ring.specs.Answers.{InNumbers, gives, refuses}
use Rattle.book.specs.declared.books.Book.{Book}
use Rattle.book.specs.Books.{records_of, has_marked}
use Rattle.stored.specs.declared.forms.Form.{Form}
use Rattle.stored.specs.declared.forms.Form.TheVariants.{Old, New}
use Rattle.ring.specs.declared.refusals.Refusal.{Refusal}
use Rattle.stored.specs.Forms.{stored_length, stored_form}

-- the length of a book's stored form
abbrev pub length_of : Form → Book → ℕ
length_of form b = stored_length form (length (records_of b))

-- "17 buffer shorter than the length", "Success gives the length."
unfoldable pub form_answer : Form → Book → List ℕ → Result ℕ Refusal
form_answer form b buffer = cond (ltb (length buffer) (length_of form b)) (Err BufferShort) (Ok (length_of form b))

-- the buffer afterwards: "bytes past the length stay", and a refusal changes nothing
unfoldable pub after_form : Form → Book → List ℕ → List ℕ
after_form form b buffer = cond (ltb (length buffer) (length_of form b)) buffer (stored_form form b ++ drop (length_of form b) buffer)

-- "Storing a book in the new form is refused only by 17."
abbrev pub store_answer : Book → List ℕ → Result ℕ Refusal
store_answer b buffer = form_answer New b buffer

-- the buffer afterwards
abbrev pub after_store : Book → List ℕ → List ℕ
after_store b buffer = after_form New b buffer

-- "25 for a book with a pending record, before 17", and "for a book with a record whose crew is not 0": in the old form
unfoldable pub store_old_answer : Book → List ℕ → Result ℕ Refusal
store_old_answer b buffer = cond (has_marked b) (Err MarkedRecord) (form_answer Old b buffer)

-- the buffer afterwards
unfoldable pub after_store_old : Book → List ℕ → List ℕ
after_store_old b buffer = cond (has_marked b) buffer (after_form Old b buffer)

-- the answer in numbers: "Success gives the length."
abbrev pub store_in_numbers : Result ℕ Refusal → InNumbers
store_in_numbers (Ok size) = gives (size ∷ [])
store_in_numbers (Err r) = refuses r

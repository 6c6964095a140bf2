-- What the writers and readers of blocks are handed and leave.
use Rattle.std.specs.Prelude.{ℕ, ◌-◌, ◌≤◌, ◌<◌, ◌≡◌, List, [], ◌++◌, length}
use Rattle.ring.specs.Buffers.{written}
use Rattle.book.specs.declared.circuits.Circuit.{Circuit}
use Rattle.book.specs.declared.books.Book.{Book}
use Rattle.book.specs.Books.{records_of, book_of}
use Rattle.stored.specs.declared.forms.Form.{Form}
use Rattle.stored.specs.Blocks.{word, check_of}
use Rattle.stored.specs.Forms.{first_record}

-- 512 bytes with their block number and their check
unfoldable pub sealed : ℕ → List ℕ → List ℕ
sealed k bytes = written (written bytes 508 (word k)) 510 (word (check_of (written bytes 508 (word k))))

-- what the writer of a later block is handed: 512 bytes, and the number of a block that has records
pub record RecordBlock (form : Form) (b : Book) (number : ℕ) (block : List ℕ) : Type 0 where
  pub size : length block ≡ 512
  pub from : 1 ≤ number
  pub to : number ≤ 13
  pub filled : first_record form (number - 1) < length (records_of b)

-- a book with further circuits behind its records
abbrev pub extended : Book → List Circuit → Book
extended b cs = book_of b.n b.w b.grants (records_of b ++ cs)

-- what the reader of a later block is handed: 512 bytes, and a book in its form with room for the circuits that are left
pub record ReadRoom (block : List ℕ) (b : Book) (count : ℕ) : Type 0 where
  pub size : length block ≡ 512
  pub form : b ≡ extended b []
  pub some : length (records_of b) ≤ count
  pub most : count ≤ 512

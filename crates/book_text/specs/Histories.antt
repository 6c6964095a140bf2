-- What every run of lines comes to: the book in the file goes through the book's own histories.
use Rattle.std.specs.Prelude.{ℕ, ◌≡◌, Some, None, Ok, List, [], ◌∷◌, ◌++◌}
use Rattle.ring.specs.Admission.{ring_verdict}
use Rattle.texts.specs.Bytes.{bytes}
use Rattle.book.specs.declared.books.Book.{Book}
use Rattle.book.specs.Books.{opened}
use Rattle.book.specs.History.{Call, Grant, Remove, Confirm, Show, Holder, run}
use Rattle.stored.specs.declared.forms.Form.TheVariants.{New}
use Rattle.stored.specs.Forms.{stored_form}
use Rattle.stored.specs.Loading.{loaded_old}
use Rattle.stored.specs.Histories.{StoredAfter}
use Rattle.book_lines.specs.declared.lines.Command.{Command}
use Rattle.book_lines.specs.declared.lines.Command.TheVariants as command
use Rattle.book_lines.specs.Lines.{command_of}
use Rattle.book_text.specs.Answers.{answered_book}
use Rattle.book_text.specs.Promises.{File, line_answer, file_after, obeyed}

-- the file after lines, the latest first: each acts on the file as the one before it left it
abbrev pub file_after_all : File → List (List ℕ) → File
file_after_all file [] = file
file_after_all file (line ∷ lines) = file_after (file_after_all file lines) line

-- the call on the book that a command is, in front of those before it; the other commands are none
abbrev pub called : Command → List Call → List Call
called (command.Open n w) calls = calls
called (command.Grant l) calls = Grant l.x l.y l.way l.colour l.crew ∷ calls
called command.Preview calls = calls
called (command.Remove serial) calls = Remove serial ∷ calls
called (command.Confirm serial) calls = Confirm serial ∷ calls
called (command.Show serial crew) calls = Show serial crew ∷ calls
called (command.Holder link colour crew) calls = Holder link colour crew ∷ calls
called command.Count calls = calls
called command.Revision calls = calls
called command.List calls = calls
called command.Pending calls = calls
called (command.Aside a) calls = calls

-- the calls of lines, the latest first
abbrev pub calls_of : List (List ℕ) → List Call
calls_of [] = []
calls_of (line ∷ lines) = called (command_of line) (calls_of lines)

-- a file that holds the book after these calls from an opening, and answers each line as that book does
pub record FileHolds (n w : ℕ) (calls : List Call) (file : File) : Type 0 where
  pub bytes : List ℕ
  pub there : file ≡ Some bytes
  pub stored : StoredAfter n w calls bytes
  pub answers : (line : List ℕ) → obeyed file line ≡ answered_book (run (opened n w).book calls) (command_of line)

-- a file in the old form answers each line as its book does, and a line that changes the book leaves the new form of the changed one
pub record OldFile (bytes : List ℕ) (b : Book) : Type 0 where
  pub answers : (line : List ℕ) → obeyed (Some bytes) line ≡ answered_book b (command_of line)
  pub changed : (line : List ℕ) (d : Book) → (answered_book b (command_of line)).changed ≡ Some d
      → file_after (Some bytes) line ≡ Some (stored_form New d)
  pub left : (line : List ℕ) → (answered_book b (command_of line)).changed ≡ None → file_after (Some bytes) line ≡ Some bytes

-- a line that opens a book leaves its new form; then it is so after all lines; what loads as the old form is a file in the old form
pub record LineHistories : Type 0 where
  pub opening : (n w : ℕ) → ring_verdict n w ≡ Ok tt → (line : List ℕ) → command_of line ≡ command.Open n w
      → file_after None line ≡ Some (stored_form New (opened n w).book)
  pub lines : (n w : ℕ) → ring_verdict n w ≡ Ok tt → (lines : List (List ℕ))
      → FileHolds n w (calls_of lines) (file_after_all (Some (stored_form New (opened n w).book)) lines)
  pub old : (bytes : List ℕ) → (loaded_old bytes).answer ≡ Ok tt → OldFile bytes (loaded_old bytes).book

-- the answers to lines, one behind the other
abbrev pub line_answers : File → List (List ℕ) → List ℕ
line_answers file [] = []
line_answers file (line ∷ lines) = line_answer file line ++ line_answers (file_after file line) lines

-- T7 as it is typed, with what it says of the grant "Without the confirmation", and the revision at its end
abbrev pub TypedT7 : Type 0
TypedT7 =
    line_answers None
    (bytes "open 4 1\n"
    ∷ bytes "grant 0 2 0 0\n"
    ∷ bytes "grant 2 3 0 0\n"
    ∷ bytes "grant 1 3 0 0\n"
    ∷ bytes "remove 1\n"
    ∷ bytes "grant 0 1 0 0\n"
    ∷ bytes "confirm 1\n"
    ∷ bytes "grant 0 2 1 0\n"
    ∷ bytes "grant 0 1 0 0\n"
    ∷ bytes "show 1\n"
    ∷ bytes "show 4\n"
    ∷ bytes "revision\n"
    ∷ [])
    ≡ bytes "opened 4 1\ngranted 1\ngranted 2\nrefused 11 that colour is held on a link of the way\n"
    ++ (bytes "removed 1\nrefused 11 that colour is held on a link of the way\n"
    ++ (bytes "confirmed 1\nrefused 11 that colour is held on a link of the way\ngranted 3\n"
    ++ bytes "refused 15 removed\nrefused 14 serial 0 or never given\nrevision 4\n"))

-- What a line promises: from the bytes of the file, or none, to the answer and the bytes that the file is to hold.
use Rattle.std.specs.Prelude.{ℕ, ◌≤◌, ◌<◌, ◌≡◌, true, List, ◌++◌, ◌⊎◌, length, drop, Option, Some, None, IfSome, is_some, Ok}
use Rattle.book.specs.declared.books.Book.{Book}
use Rattle.stored.specs.declared.forms.Form.TheVariants.{New}
use Rattle.stored.specs.Forms.{stored_form}
use Rattle.stored.specs.Loading.{loaded_either}
use Rattle.book_text.specs.declared.answers.Answered.{Answered}
use Rattle.book_text.specs.declared.obeying.Need.TheVariants.{Writing}
use Rattle.book_text.specs.declared.obeying.Obeyed.{Obeyed}
use Rattle.book_lines.specs.Lines.{heard, command_of}
use Rattle.book_text.specs.Needs.{need_of}
use Rattle.book_text.specs.Answers.{Contents, found_by, answered}
use Rattle.book_replies.specs.Replies.{reply_text}

-- "the bytes of the file (or none)"
abbrev pub File : Type 0
File = Option (List ℕ)

-- what the file holds: a book in either form
abbrev pub contents_of : File → Contents
contents_of None = Ok None
contents_of (Some bytes) = found_by (loaded_either bytes).answer (loaded_either bytes).book

-- what a line does and answers
abbrev pub obeyed : File → List ℕ → Answered
obeyed file line = answered (contents_of file) (command_of line)

-- the text that answers a line
abbrev pub line_answer : File → List ℕ → List ℕ
line_answer file line = reply_text (heard line) (obeyed file line).reply

-- the new form of a changed book, or the file as it was
abbrev pub form_or : Option Book → File → File
form_or None file = file
form_or (Some b) file = Some (stored_form New b)

-- the file after a line
abbrev pub file_after : File → List ℕ → File
file_after file line = form_or (obeyed file line).changed file

-- the buffer begins with the text, whole; its length is given, and the rest stays
pub record Told (text before after : List ℕ) (size : ℕ) : Type 0 where
  pub whole : size ≡ length text
  pub buffer : after ≡ text ++ drop (length text) before

-- the new form of a changed book is told, or there is none and the buffer stays
abbrev pub FormTold : Option Book → List ℕ → List ℕ → Option ℕ → Type 0
FormTold None before after None = after ≡ before
FormTold None before after (Some size) = ⊥
FormTold (Some b) before after None = ⊥
FormTold (Some b) before after (Some size) = Told (stored_form New b) before after size

-- the answer is told and, exactly if the book changes, its new form is
pub record Done (file : File) (line reply form replyAfter formAfter : List ℕ) (r : Obeyed) : Type 0 where
  pub told : Told (line_answer file line) reply replyAfter r.reply
  pub stored : FormTold (obeyed file line).changed form formAfter r.form

-- no answer is longer than 16,384 bytes and no stored form longer than 7,168; with less room nothing is done
pub record ObeyPromise (file : File) (line reply form replyAfter formAfter : List ℕ) (r : Obeyed) : Type 0 where
  pub short : (length reply < 16384) ⊎ (length form < 7168)
      → (r ≡ record { reply = 0; form = None }) × ((replyAfter ≡ reply) × (formAfter ≡ form))
  pub within : (r.reply ≤ length replyAfter) × IfSome r.form (λ size. size ≤ length formAfter)
  pub obeyed : 16384 ≤ length reply → 7168 ≤ length form → Done file line reply form replyAfter formAfter r

-- only a line that needs to write changes the file
abbrev pub OnlyWritingChanges : Type 0
OnlyWritingChanges = (file : File) (line : List ℕ) → is_some (obeyed file line).changed ≡ true → need_of (command_of line) ≡ Writing

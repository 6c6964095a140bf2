-- What a command answers and does, by what the file holds.
use Rattle.std.specs.Prelude.{ℕ, ◌≡◌, length, Option, Some, None, Result, Ok, Err, ⊤}
use Rattle.ring.specs.declared.refusals.Refusal.{Refusal}
use Rattle.book.specs.declared.books.Book.{Book}
use Rattle.book.specs.declared.circuits.Circuit.{Circuit}
use Rattle.book.specs.declared.holders.Holder.{Holder}
use Rattle.book.specs.Books.{live_of, Valid, opened}
use Rattle.book.specs.Revisions.{revision}
use Rattle.book.specs.Grants.{granted}
use Rattle.book.specs.Removals.{removed}
use Rattle.book.specs.Confirmations.{confirmed}
use Rattle.book.specs.Orders.{shown_to}
use Rattle.book.specs.Holders.{held_for}
use Rattle.book.specs.declared.grants.Line.{Line}
use Rattle.book_lines.specs.declared.lines.Command.{Command}
use Rattle.book_lines.specs.declared.lines.Command.TheVariants as command
use Rattle.book_replies.specs.declared.replies.Reply.{Reply}
use Rattle.book_replies.specs.declared.replies.Reply.TheVariants as reply
use Rattle.book_text.specs.declared.answers.Answered.{Answered}

-- what a file holds: its book, if there is a file, or why none can be read from it
abbrev pub Contents : Type 0
Contents = Result (Option Book) Refusal

-- a file's bytes, by what their load answers: a book in either form
abbrev pub found_by : Result ⊤ Refusal → Book → Contents
found_by (Ok loaded) b = Ok (Some b)
found_by (Err r) b = Err r

-- the book, if there is one, is a valid one
abbrev pub ValidContents : Contents → Type 0
ValidContents contents = (b : Book) → contents ≡ Ok (Some b) → Valid b

-- an answer that changes nothing
abbrev pub only : Reply → Answered
only said = record { reply = said; changed = None }

-- an answer with a book that is to be stored
abbrev pub replacing : Book → Reply → Answered
replacing b said = record { reply = said; changed = Some b }

-- opening, by the book's own answer: a refusal changes nothing
abbrev pub opening_by : ℕ → ℕ → Result ⊤ Refusal → Book → Answered
opening_by n w (Ok opened) fresh = replacing fresh (reply.Opened n w)
opening_by n w (Err r) fresh = only (reply.Refused r)

-- a grant, by the book's own answer
abbrev pub granting_by : Result ℕ Refusal → Book → Answered
granting_by (Ok serial) next = replacing next (reply.Granted serial)
granting_by (Err r) next = only (reply.Refused r)

-- a removal, by the book's own answer
abbrev pub removing_by : ℕ → Result ⊤ Refusal → Book → Answered
removing_by serial (Ok removed) next = replacing next (reply.Removed serial)
removing_by serial (Err r) next = only (reply.Refused r)

-- a confirmation, by the book's own answer
abbrev pub confirming_by : ℕ → Result ⊤ Refusal → Book → Answered
confirming_by serial (Ok confirmed) next = replacing next (reply.Confirmed serial)
confirming_by serial (Err r) next = only (reply.Refused r)

-- what show replies, by the book's own answer
abbrev pub showing_by : Result Circuit Refusal → Reply
showing_by (Ok c) = reply.Circuit c
showing_by (Err r) = reply.Refused r

-- what holder replies, by the book's own answer
abbrev pub holding_by : Result Holder Refusal → Reply
holding_by (Ok h) = reply.Holder h
holding_by (Err r) = reply.Refused r

-- `open N W`
abbrev pub opening_answer : ℕ → ℕ → Answered
opening_answer n w = opening_by n w (opened n w).answer (opened n w).book

-- `grant X Y WAY COLOUR CREW`
abbrev pub grant_answer : Book → Line → Answered
grant_answer b l = granting_by (granted b l.x l.y l.way l.colour l.crew).answer (granted b l.x l.y l.way l.colour l.crew).book

-- `remove SERIAL`
abbrev pub remove_answer : Book → ℕ → Answered
remove_answer b serial = removing_by serial (removed b serial).answer (removed b serial).book

-- `confirm SERIAL`
abbrev pub confirm_answer : Book → ℕ → Answered
confirm_answer b serial = confirming_by serial (confirmed b serial).answer (confirmed b serial).book

-- `show SERIAL CREW`
abbrev pub show_reply : Book → ℕ → ℕ → Reply
show_reply b serial crew = showing_by (shown_to crew b serial)

-- `holder LINK COLOUR CREW`
abbrev pub holder_reply : Book → ℕ → ℕ → ℕ → Reply
holder_reply b link colour crew = holding_by (held_for crew b link colour)

-- a command that there is no book for gets this reply; an aside asks for none
abbrev pub turned_down : Reply → Command → Answered
turned_down said (command.Aside a) = only (reply.Aside a)
turned_down said _ = only said

-- where there is no file, a book may be opened
abbrev pub answered_none : Command → Answered
answered_none (command.Open n w) = opening_answer n w
answered_none c = turned_down reply.NoBook c

-- where there is a book, it is asked
abbrev pub answered_book : Book → Command → Answered
answered_book b (command.Open n w) = only reply.BookThere
answered_book b (command.Grant l) = grant_answer b l
answered_book b command.Preview = only (reply.Previewed b)
answered_book b (command.Remove serial) = remove_answer b serial
answered_book b (command.Confirm serial) = confirm_answer b serial
answered_book b (command.Show serial crew) = only (show_reply b serial crew)
answered_book b (command.Holder link colour crew) = only (holder_reply b link colour crew)
answered_book b command.Count = only (reply.Count (length (live_of b)) b.grants)
answered_book b command.Revision = only (reply.Revision (revision b))
answered_book b command.List = only (reply.Orders b)
answered_book b command.Pending = only (reply.PendingOrders b)
answered_book b (command.Aside a) = only (reply.Aside a)

-- the answer to a command, by what the file holds: one that is in neither form gets its refusal for an answer
abbrev pub answered : Contents → Command → Answered
answered (Ok None) c = answered_none c
answered (Ok (Some b)) c = answered_book b c
answered (Err r) c = turned_down (reply.Refused r) c

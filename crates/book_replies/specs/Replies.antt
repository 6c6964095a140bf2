-- The text that answers a command.
use Rattle.std.specs.Prelude.{ℕ, ◌-◌, min, List, [], ◌∷◌, ◌++◌, length, take, Option, Some, None, Result, Ok, Err}
use Rattle.ring.specs.declared.refusals.Refusal.{Refusal}
use Rattle.ring.specs.Refusals.{number_of}
use Rattle.texts.specs.Bytes.{bytes}
use Rattle.texts.specs.Decimal.{long_decimal}
use Rattle.texts.specs.Fields.{space, line_feed}
use Rattle.texts.specs.Layout.{labelled, way_ending}
use Rattle.texts.specs.Grounds.{ground_of}
use Rattle.book.specs.declared.circuits.Circuit.{Circuit}
use Rattle.book.specs.declared.books.Book.{Book}
use Rattle.book.specs.declared.holders.Holder.{Holder}
use Rattle.book.specs.declared.holders.Holder.TheVariants as holder
use Rattle.bundles.specs.declared.previews.Previewed.{Previewed}
use Rattle.book.specs.Books.{live_of, pending_of}
use Rattle.bundles.specs.Previews.{serials_of, previewed_all}
use Rattle.book_lines.specs.declared.lines.Aside.{Aside}
use Rattle.book_lines.specs.declared.lines.Aside.TheVariants as aside
use Rattle.book_lines.specs.Lines.{lines_in}
use Rattle.book_replies.specs.declared.replies.Reply.{Reply}
use Rattle.book_replies.specs.declared.replies.Reply.TheVariants as reply

-- a word and a number, on a line
unfoldable pub one_number : List ℕ → ℕ → List ℕ
one_number word n = labelled word n ++ (line_feed ∷ [])

-- two of each
unfoldable pub two_numbers : List ℕ → ℕ → List ℕ → ℕ → List ℕ
two_numbers first n second m = labelled first n ++ one_number second m

-- a revision, which may have more than 16 bits
unfoldable pub revision_text : ℕ → List ℕ
revision_text n = bytes "revision " ++ (long_decimal n ++ (line_feed ∷ []))

-- the ends of a circuit behind a word, then `P` and its colour, or `S` for the seam way
unfoldable pub circuit_text : List ℕ → Circuit → List ℕ
circuit_text word c = labelled word c.a ++ (labelled (bytes " ") c.b ++ (way_ending c.way c.colour ++ (line_feed ∷ [])))

-- `order SERIAL A B P COLOUR`
unfoldable pub order_text : Circuit → List ℕ
order_text c = labelled (bytes "order ") c.serial ++ circuit_text (bytes " ") c

-- lines of circuits, one behind the other, each as `line` has it
abbrev pub lines_with : (Circuit → List ℕ) → List Circuit → List ℕ
lines_with line [] = []
lines_with line (c ∷ cs) = line c ++ lines_with line cs

-- the lines of orders
abbrev pub lines_of : List Circuit → List ℕ
lines_of cs = lines_with order_text cs

-- "a line for each live order by rising serial"
unfoldable pub orders_text : Book → List ℕ
orders_text b = lines_of (live_of b)

-- and the same of each order "whose pull is open"
unfoldable pub pending_text : Book → List ℕ
pending_text b = lines_of (pending_of b)

-- "the serial of the order", that the colour is held, or that it is free
abbrev pub holder_text : Holder → List ℕ
holder_text holder.Free = bytes "free\n"
holder_text holder.Held = bytes "held\n"
holder_text (holder.HeldBy serial) = one_number (bytes "held ") serial

-- `refused NUMBER` and the ground
unfoldable pub refused_text : Refusal → List ℕ
refused_text r = labelled (bytes "refused ") (number_of r) ++ ((space ∷ []) ++ ground_of r)

-- serials, each behind a space
abbrev pub serials_text : List ℕ → List ℕ
serials_text [] = []
serials_text (serial ∷ serials) = labelled (bytes " ") serial ++ serials_text serials

-- `would grant` and the serials, or `none`
abbrev pub would_grant : List ℕ → List ℕ
would_grant [] = bytes "would grant none"
would_grant (serial ∷ serials) = bytes "would grant" ++ serials_text (serial ∷ serials)

-- the line that would be turned down and its refusal, or the end of the line
abbrev pub stop_text : Option (ℕ × Refusal) → List ℕ
stop_text None = line_feed ∷ []
stop_text (Some (i, r)) = labelled (bytes ", line ") i ++ ((space ∷ []) ++ refused_text r)

-- what the lines would get, and the line that would be turned down behind it
abbrev pub granted_text : Previewed → List ℕ
granted_text p = would_grant (serials_of p) ++ stop_text p.stopped

-- the line of a preview, or the refusal of the whole
abbrev pub preview_text : Result Previewed Refusal → List ℕ
preview_text (Ok p) = granted_text p
preview_text (Err r) = refused_text r

-- "what was not understood and the word `help`": the line without its line feed, of a long one the front
unfoldable pub unreadable_text : List ℕ → List ℕ
unreadable_text text =
    bytes "error not understood: " ++ (take (min 60 (length text - 1)) text ++ bytes " (help lists the commands)\n")

-- "the commands, one line each"
unfoldable pub help_text : List ℕ
help_text =
    bytes "open N W                     begins a book for a ring of N nodes and W colours\n"
    ++ (bytes "grant X Y WAY COLOUR [CREW]  enters a circuit between X and Y for CREW, WAY 0 plain or 1 seam, and gives its order a serial\n"
    ++ (bytes "preview LINE, ..             the serials that up to 16 grants would get, each LINE as X Y WAY COLOUR [CREW]\n"
    ++ (bytes "remove SERIAL                removes an order; its colour stays held until the pull is confirmed\n"
    ++ (bytes "confirm SERIAL               confirms that a removed order's patch is pulled, and frees its colour\n"
    ++ (bytes "show SERIAL [CREW]           the circuit of an order that CREW may read: its ends, P (plain) or S (seam), its colour\n"
    ++ (bytes "holder LINK COLOUR [CREW]    the order that has the colour on the link, if CREW may read it\n"
    ++ (bytes "count                        how many orders are live, and how many were granted so far\n"
    ++ (bytes "revision                     the book's revision, which rises by one with each grant and each removal\n"
    ++ (bytes "list                         every live order with its circuit\n"
    ++ (bytes "pending                      every removed order whose pull is not yet confirmed, with its circuit\n"
    ++ bytes "help                         these lines; CREW is 0 to 999, and 0, the desk, where it is left out\n"))))))))))

-- the answer to a line that asks nothing of the book, as it was heard
abbrev pub aside_text : List ℕ → Aside → List ℕ
aside_text text aside.Help = help_text
aside_text text aside.Nothing = []
aside_text text aside.Unreadable = unreadable_text text
aside_text text aside.Unfinished = bytes "error the last line has no line feed and is not obeyed\n"
aside_text text aside.TooLong = bytes "error a line of more than 1,024 bytes is not obeyed\n"

-- the text of each reply, to a line as it was heard
abbrev pub reply_text : List ℕ → Reply → List ℕ
reply_text text (reply.Opened n w) = two_numbers (bytes "opened ") n (bytes " ") w
reply_text text (reply.Granted serial) = one_number (bytes "granted ") serial
reply_text text (reply.Previewed b) = preview_text (previewed_all b (lines_in text))
reply_text text (reply.Removed serial) = one_number (bytes "removed ") serial
reply_text text (reply.Confirmed serial) = one_number (bytes "confirmed ") serial
reply_text text (reply.Circuit c) = circuit_text (bytes "circuit ") c
reply_text text (reply.Holder h) = holder_text h
reply_text text (reply.Count live grants) = two_numbers (bytes "live ") live (bytes " grants ") grants
reply_text text (reply.Revision n) = revision_text n
reply_text text (reply.Orders b) = orders_text b
reply_text text (reply.PendingOrders b) = pending_text b
reply_text text (reply.Refused r) = refused_text r
reply_text text reply.BookThere = bytes "error there is a book in the file already\n"
reply_text text reply.NoBook = bytes "error there is no book yet (open N W begins one)\n"
reply_text text (reply.Aside a) = aside_text text a

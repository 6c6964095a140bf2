-- What is printed, by the distances of the links' lengths.
use Rattle.std.specs.Prelude.{ℕ, List, ◌++◌, Result, Ok, Err}
use Rattle.ring.specs.declared.refusals.Refusal.{Refusal}
use Rattle.texts.specs.Bytes.{bytes}
use Rattle.texts.specs.Decimal.{decimal}
use Rattle.book.specs.declared.circuits.Circuit.{Circuit}
use Rattle.book.specs.declared.books.Book.{Book}
use Rattle.book.specs.Books.{live_of}
use Rattle.charges.specs.declared.charges.Tariff.{Tariff}
use Rattle.charges.specs.Internal.Distances.{charge_by, charges_by}
use Rattle.book_replies.specs.Replies.{lines_with, refused_text}
use Rattle.charges_text.specs.Layout.{paid_line}

-- `SERIAL CENTS`
abbrev pub line_by : Tariff → Circuit → List ℕ
line_by t c = paid_line (decimal c.serial) (charge_by t.rates t.distances.0 c)

-- the lines of the live orders, and `total CENTS`
abbrev pub text_by : Tariff → Book → List ℕ
text_by t b = lines_with (line_by t) (live_of b) ++ paid_line (bytes "total") (charges_by t.rates t.distances.0 (live_of b))

-- of a book and its tariff, or of what is wrong with them
abbrev pub text_priced : Result (Book × Tariff) Refusal → List ℕ
text_priced (Ok priced) = text_by priced.1 priced.0
text_priced (Err refusal) = refused_text refusal

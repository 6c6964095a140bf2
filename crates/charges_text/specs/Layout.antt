-- What `rings charges` prints, as bytes.
use Rattle.std.specs.Prelude.{ℕ, List, [], ◌∷◌, ◌++◌}
use Rattle.texts.specs.Bytes.{bytes}
use Rattle.texts.specs.Decimal.{decimal, long_decimal}
use Rattle.texts.specs.Fields.{line_feed}
use Rattle.book.specs.declared.circuits.Circuit.{Circuit}
use Rattle.book.specs.declared.books.Book.{Book}
use Rattle.book.specs.Books.{live_of}
use Rattle.charges.specs.Charges.{circuit_charge, charges_of}
use Rattle.book_replies.specs.Replies.{lines_with}

-- a word and so many cents, on a line
unfoldable pub paid_line : List ℕ → ℕ → List ℕ
paid_line word paid = word ++ (bytes " " ++ (long_decimal paid ++ (line_feed ∷ [])))

-- `SERIAL CENTS`
abbrev pub order_line : List ℕ → List ℕ → Circuit → List ℕ
order_line lengths rates c = paid_line (decimal c.serial) (circuit_charge lengths rates c)

-- "a line `SERIAL CENTS` for each live order by rising serial, and `total CENTS`"
unfoldable pub charges_text : Book → List ℕ → List ℕ → List ℕ
charges_text b lengths rates =
    lines_with (order_line lengths rates) (live_of b) ++ paid_line (bytes "total") (charges_of lengths rates (live_of b))

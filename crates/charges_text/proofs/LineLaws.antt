-- The lines of orders, and what all pay.
use Prim.Native.Nat.{ℕ, ◌≤◌}
use mathlib.Core.Path.{◌≡◌, refl}
use mathlib.Core.List.{List, [], ◌∷◌, ◌++◌}
use native.Mathlib.Omega.{arith}
use lib.ListN.{length, length-append}
use Rattle.texts.specs.Decimal.{decimal}
use Rattle.texts.proofs.DecimalLaws.{decimal_short, long_short}
use Rattle.book.specs.declared.circuits.Circuit.{Circuit}
use Rattle.book.specs.declared.books.Book.{Book}
use Rattle.book.specs.Books.{live_of}
use Rattle.charges.specs.declared.charges.Tariff.{Tariff}
use Rattle.charges.specs.Internal.Tariffs.{IsTariff}
use Rattle.charges.specs.Internal.Distances.{charge_by}
use Rattle.charges.proofs.DistanceLaws.{charge_by_lem, charges_by_lem}
use Rattle.book_replies.specs.Replies.{lines_with}
use Rattle.charges_text.specs.Layout.{paid_line, order_line, charges_text}
use Rattle.charges_text.specs.Internal.Lines.{line_by, text_by}

-- a space, so many cents and a line feed
pub paid_short : (paid : ℕ) → length (paid_line [] paid) ≤ 22
unfolding paid_line
paid_short paid = let short = long_short paid in simp length-append (omega arith)

-- behind a word
pub paid_behind : (word : List ℕ) (paid : ℕ) → word ++ paid_line [] paid ≡ paid_line word paid
unfolding paid_line
paid_behind word paid = refl

-- the line of an order has at most 27 bytes
pub line_short : (t : Tariff) (c : Circuit) → length (line_by t c) ≤ 27
line_short t c =
    let number = decimal_short c.serial in
    let paid = paid_short (charge_by t.rates t.distances.0 c) in
    rw (← paid_behind (decimal c.serial) (charge_by t.rates t.distances.0 c), length-append) (omega arith)

-- by the lengths
module _ (lengths rates : List ℕ) (t : Tariff) (is : IsTariff lengths rates t) (few : length lengths ≤ 256) where
  lines_by : (cs : List Circuit) → lines_with (line_by t) cs ≡ lines_with (order_line lengths rates) cs
  lines_by [] = refl
  lines_by (c ∷ cs) = rw (is.prices, charge_by_lem lengths t.distances.0 is.distances few rates c, lines_by cs) refl

  pub text_by_lem : (b : Book) → text_by t b ≡ charges_text b lengths rates
  unfolding charges_text
  text_by_lem b = rw (lines_by (live_of b), is.prices, charges_by_lem lengths t.distances.0 is.distances few rates (live_of b)) refl

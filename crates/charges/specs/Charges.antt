-- The charge of an order, and of the book.
use Rattle.std.specs.Prelude.{ℕ, ◌+◌, ◌≡◌, List, [], ◌∷◌, Result, Ok, Err}
use Rattle.ring.specs.declared.refusals.Refusal.{Refusal}
use Rattle.ring.specs.Refusals.{or_else, Verdict}
use Rattle.ring.specs.Answers.{InNumbers, gives, refuses}
use Rattle.book.specs.declared.circuits.Circuit.{Circuit}
use Rattle.book.specs.declared.books.Book.{Book}
use Rattle.book.specs.Circuits.{ends_of}
use Rattle.book.specs.Books.{live_of, Valid}
use Rattle.book.specs.Orders.{shown}
use Rattle.charges.specs.Lengths.{metres, lengths_verdict}
use Rattle.charges.specs.Rates.{rates_in, rates_verdict, cents}

-- what a circuit pays "along its way", in cents
unfoldable pub circuit_charge : List ℕ → List ℕ → Circuit → ℕ
circuit_charge lengths rates c = cents (rates_in rates) (metres c.way (ends_of c) lengths)

-- "The book's charge adds the rounded charges" of these circuits
abbrev pub charges_of : List ℕ → List ℕ → List Circuit → ℕ
charges_of lengths rates [] = 0
charges_of lengths rates (c ∷ cs) = circuit_charge lengths rates c + charges_of lengths rates cs

-- "14 and 15 for a single order first": as show answers the desk, a pending order by 15
abbrev pub order_verdict : Result Circuit Refusal → Verdict
order_verdict (Ok c) = Ok tt
order_verdict (Err r) = Err r

-- "then 29 .. 30"
abbrev pub tariff_verdict : ℕ → List ℕ → List ℕ → Verdict
tariff_verdict n lengths rates = or_else (lengths_verdict n lengths) (rates_verdict rates)

-- all grounds of the charge of an order, in their order: 14, 15, 29, 30
unfoldable pub charge_verdict : Book → ℕ → List ℕ → List ℕ → Verdict
charge_verdict b serial lengths rates = or_else (order_verdict (shown b serial)) (tariff_verdict b.n lengths rates)

-- the cents, or the refusal of a verdict
abbrev pub charge_unless : Verdict → ℕ → Result ℕ Refusal
charge_unless (Ok tt) paid = Ok paid
charge_unless (Err r) paid = Err r

-- what the order that is shown pays; one that is not shown is turned down, and pays nothing
abbrev pub shown_charge : List ℕ → List ℕ → Result Circuit Refusal → ℕ
shown_charge lengths rates (Ok c) = circuit_charge lengths rates c
shown_charge lengths rates (Err r) = 0

-- what the order of a serial pays: "Success gives the cents"
unfoldable pub charged : Book → ℕ → List ℕ → List ℕ → Result ℕ Refusal
charged b serial lengths rates = charge_unless (charge_verdict b serial lengths rates) (shown_charge lengths rates (shown b serial))

-- "The book's charge adds the rounded charges of its live circuits"; its grounds are 29, 30
unfoldable pub book_charged : Book → List ℕ → List ℕ → Result ℕ Refusal
book_charged b lengths rates = charge_unless (tariff_verdict b.n lengths rates) (charges_of lengths rates (live_of b))

-- its answer in numbers
abbrev pub charge_in_numbers : Result ℕ Refusal → InNumbers
charge_in_numbers (Ok paid) = gives (paid ∷ [])
charge_in_numbers (Err r) = refuses r

-- the promise of charge and of book_charge: the refusals of their grounds are given for any value of the book's struct, and the whole
-- answer for the books that the rules speak of
pub record ChargePromise (b : Book) (grounds : Verdict) (whole result : Result ℕ Refusal) : Type 0 where
  pub refused : (r : Refusal) → grounds ≡ Err r → result ≡ Err r
  pub valid : Valid b → result ≡ whole

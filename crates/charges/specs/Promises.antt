-- What those who pay rely on.
use Rattle.std.specs.Prelude.{ℕ, ◌+◌, ◌*◌, ◌≤◌, ◌<◌, ◌≡◌, true, false, ◌&&◌, ◌||◌, List, [], ◌∷◌, length, get_or, Ok}
use Rattle.ring.specs.declared.requests.Request.{Request}
use Rattle.ring.specs.declared.ways.Way.TheVariants.{Plain, Seam}
use Rattle.ring.specs.Ways.{uses}
use Rattle.book.specs.declared.circuits.Circuit.{Circuit}
use Rattle.book.specs.declared.books.Book.{Book}
use Rattle.book.specs.Circuits.{circuit}
use Rattle.book.specs.Books.{live_of, Valid}
use Rattle.charges.specs.declared.rates.Rates.{Rates}
use Rattle.charges.specs.Lengths.{metres}
use Rattle.charges.specs.Rates.{in_first, in_second, in_third, thousandths, cents}
use Rattle.charges.specs.Charges.{circuit_charge, tariff_verdict, charged, book_charged}

-- the numbers of a list, added
abbrev pub total : List ℕ → ℕ
total [] = 0
total (x ∷ xs) = x + total xs

-- the plain way and the seam way use disjoint links that make up the ring, and so do the metres that each pays for
pub record WaysMakeRing (r : Request) : Type 0 where
  pub disjoint : (link : ℕ) → (uses Plain r link && uses Seam r link) ≡ false
  pub covering : (link : ℕ) → (uses Plain r link || uses Seam r link) ≡ true
  pub whole : (lengths : List ℕ) → metres Plain r lengths + metres Seam r lengths ≡ total lengths

-- every metre is in one band, and is paid once
abbrev pub EveryMetreOnce : Type 0
EveryMetreOnce = (m : ℕ) → in_first m + in_second m + in_third m ≡ m

-- "rounded up to a whole cent, once": no cent less would do, and the cents are less than one above the sum over the bands
pub record RoundedUp (rates : Rates) (m : ℕ) : Type 0 where
  pub enough : thousandths rates m ≤ 1000 * cents rates m
  pub least : 1000 * cents rates m < thousandths rates m + 1000

-- links that are as long or longer never lower a charge, whatever the rates
abbrev pub LongerNeverCheaper : Type 0
LongerNeverCheaper = (lengths longer rates : List ℕ) (c : Circuit) → length lengths ≡ length longer
    → ((i : ℕ) → get_or lengths i 0 ≤ get_or longer i 0) → circuit_charge lengths rates c ≤ circuit_charge longer rates c

-- a live order pays what the book adds for it: `charge` of its serial answers the charge of its circuit
abbrev pub OrdersPay : Type 0
OrdersPay = (b : Book) → Valid b → (lengths rates : List ℕ) → tariff_verdict b.n lengths rates ≡ Ok tt
    → (i : ℕ) → i < length (live_of b)
    → charged b (circuit (live_of b) i).serial lengths rates ≡ Ok (circuit_charge lengths rates (circuit (live_of b) i))

-- no order pays more than 255 links of 1,000 km at the greatest rate cost, and no book more than 512 times that: 64 bits have room for both
pub record GreatestCharge : Type 0 where
  pub order : (b : Book) → Valid b → (serial : ℕ) (lengths rates : List ℕ) (paid : ℕ) → charged b serial lengths rates ≡ Ok paid
      → paid ≤ 25500000000
  pub book : (b : Book) → Valid b → (lengths rates : List ℕ) (paid : ℕ) → book_charged b lengths rates ≡ Ok paid
      → paid ≤ 512 * 25500000000

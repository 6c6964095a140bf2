-- What the desk and the other crews read: the desk as before, another crew nothing but its own live orders and where it is free.
use Rattle.std.specs.Prelude.{ℕ, ◌<◌, ◌≡◌}
use Rattle.book.specs.declared.books.Book.{Book}
use Rattle.book.specs.Circuits.{desk}
use Rattle.book.specs.Books.{records_of, Valid}
use Rattle.book.specs.Crews.{orders_in}
use Rattle.book.specs.Grants.{held_in}
use Rattle.book.specs.Orders.{shown, shown_to}
use Rattle.book.specs.Holders.{held_by, held_for}

-- "The desk reads as before": of any book the desk gets what the histories speak of
pub record DeskReads (b : Book) : Type 0 where
  pub orders : (serial : ℕ) → shown_to desk b serial ≡ shown b serial
  pub holders : (link colour : ℕ) → held_for desk b link colour ≡ held_by b link colour

-- "two books of the same n and w, in which a crew .. has the same live orders with the same circuits and the same colours are held on the
-- same links"
pub record AlikeFor (crew : ℕ) (b d : Book) : Type 0 where
  pub nodes : b.n ≡ d.n
  pub colours : b.w ≡ d.w
  pub orders : orders_in crew (records_of b) ≡ orders_in crew (records_of d)
  pub held : (link colour : ℕ) → link < b.n → colour < b.w → held_in (records_of b) link colour ≡ held_in (records_of d) link colour

-- "that crew gets the same answers to both questions"
pub record AnswersAlike (crew : ℕ) (b d : Book) : Type 0 where
  pub orders : (serial : ℕ) → shown_to crew b serial ≡ shown_to crew d serial
  pub holders : (link colour : ℕ) → held_for crew b link colour ≡ held_for crew d link colour

-- the promise of isolation, of "a crew other than the desk"
abbrev pub Isolation : Type 0
Isolation = (b d : Book) → Valid b → Valid d → (crew : ℕ) → (crew ≡ desk → ⊥) → AlikeFor crew b d → AnswersAlike crew b d

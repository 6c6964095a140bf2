-- The links that the circuits of a book hold, one circuit after the other.
use Rattle.std.specs.Prelude.{ℕ, ◌≡◌, Bool, true, false, List}
use Rattle.links.specs.Links.{Held}
use Rattle.book.specs.declared.circuits.Circuit.{Circuit}
use Rattle.book.specs.Circuits.{ends_of}

-- a circuit that does not fit may not follow; one that does holds the links of its way in its colour, and may follow if they were free
pub record NextHolds (rows after : List (List ℕ)) (fits : Bool) (c : Circuit) (follows : Bool) : Type 0 where
  pub refused : fits ≡ false → follows ≡ false
  pub holding : fits ≡ true → Held rows after c.way (ends_of c) c.colour follows

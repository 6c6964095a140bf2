-- The book that comes with a refusal of open or load.
use Rattle.std.specs.Prelude.{ℕ, ◌≡◌, Err}
use Rattle.ring.specs.declared.refusals.Refusal.TheVariants.{CircuitEnd, SerialNeverGiven, LinkNumber}
use Rattle.book.specs.Books.{no_nodes}
use Rattle.book.specs.Crews.{crew_verdict}
use Rattle.book.specs.Grants.{argument_verdict}
use Rattle.book.specs.Orders.{show_unless, shown_to}
use Rattle.book.specs.Removals.{removed}
use Rattle.book.specs.Confirmations.{confirmed}
use Rattle.book.specs.Holders.{holder_unless, held_for}

-- the promise that it turns every call down: a grant and the first line of a preview by 4, which lies in their arguments, an order by 14
-- and a link by 16, in the questions behind 26
pub record TurnsAllDown : Type 0 where
  pub grants : (x y way colour crew : ℕ) → argument_verdict no_nodes.n no_nodes.w x y way colour crew ≡ Err CircuitEnd
  pub removals : (serial : ℕ) → removed no_nodes serial ≡ record { answer = Err SerialNeverGiven; book = no_nodes }
  pub confirmations : (serial : ℕ) → confirmed no_nodes serial ≡ record { answer = Err SerialNeverGiven; book = no_nodes }
  pub orders : (crew serial : ℕ) → shown_to crew no_nodes serial ≡ show_unless (crew_verdict crew) (Err SerialNeverGiven)
  pub holders : (crew link colour : ℕ)
      → held_for crew no_nodes link colour ≡ holder_unless (crew_verdict crew) (Err LinkNumber)

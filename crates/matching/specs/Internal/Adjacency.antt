-- The graph of a list of requests: its vertices are the request numbers.
use Rattle.std.specs.Prelude.{ℕ, ◌≡◌, Bool, true, false, not, ◌&&◌, List, eqb, ltb, length}
use Rattle.ring.specs.declared.requests.Request.{Request}
use Rattle.ring.specs.Requests.{request}
use Rattle.ring.specs.Chords.{compatible}

-- "each of two compatible requests with different numbers"
unfoldable pub adjacent : List Request → ℕ → ℕ → Bool
adjacent R i j = not (eqb i j) && (ltb i (length R) && (ltb j (length R) && compatible (request R i) (request R j)))

-- whether no request is adjacent to i
pub record Alone (R : List Request) (i : ℕ) (alone : Bool) : Type 0 where
  pub none : alone ≡ true → (j : ℕ) → adjacent R i j ≡ false
  pub some : alone ≡ false → (j : ℕ) × (adjacent R i j ≡ true)

-- Crossing and compatible requests.
use Rattle.std.specs.Prelude.{ℕ, Bool, not, ◌&&◌, ◌||◌, eqb, ltb}
use Rattle.std.specs.Bool.{xor}
use Rattle.ring.specs.declared.requests.Request.{Request}

-- x "lies strictly between a and b"
unfoldable pub inside : Request → ℕ → Bool
inside r x = ltb r.a x && ltb x r.b

-- an end of one is an end of the other
unfoldable pub share_end : Request → Request → Bool
share_end r s = (eqb r.a s.a || eqb r.a s.b) || (eqb r.b s.a || eqb r.b s.b)

-- "all four ends differ and exactly one end of the second lies strictly between a and b of the first"
unfoldable pub crosses : Request → Request → Bool
crosses r s = not (share_end r s) && xor (inside r s.a) (inside r s.b)

-- "Two requests are compatible if their chords do not cross."
unfoldable pub compatible : Request → Request → Bool
compatible r s = not (crosses r s)

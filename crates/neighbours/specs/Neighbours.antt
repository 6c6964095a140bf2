-- The set of the requests that are compatible with a request, from sets kept for each node.
use Rattle.std.specs.Prelude.{ℕ, ◌<◌, ◌≡◌, List, [], ltb, length, get_or, replicate}
use Rattle.std.specs.Bool.{xor}
use Rattle.ring.specs.declared.requests.Request.{Request}
use Rattle.ring.specs.Requests.{request}
use Rattle.ring.specs.Chords.{compatible}
use Rattle.sets.specs.Sets.{has}

-- for each node and one more, the empty set
abbrev pub empty : List (List ℕ)
empty = replicate 257 (replicate 8 0)

-- for each node, the requests that have exactly one end below it
pub record Prefixes (R : List Request) (sets : List (List ℕ)) : Type 0 where
  pub many : length sets ≡ 257
  pub wide : (x : ℕ) → x < 257 → length (get_or sets x []) ≡ 8
  pub ends : (x j : ℕ) → x < 257 → j < length R → has (get_or sets x []) j ≡ xor (ltb (request R j).a x) (ltb (request R j).b x)

-- the set of the requests compatible with request x
pub record Neighbours (R : List Request) (x : ℕ) (set : List ℕ) : Type 0 where
  pub wide : length set ≡ 8
  pub compatible : (j : ℕ) → j < length R → has set j ≡ compatible (request R x) (request R j)

-- The links that are held in each colour: 256 links as four words of 64 bits.
use Rattle.std.specs.Prelude.{ℕ, ◌<◌, ◌≡◌, Bool, not, ◌&&◌, ◌||◌, List, [], eqb, length, get_or, replicate}
use Rattle.ring.specs.declared.requests.Request.{Request}
use Rattle.ring.specs.declared.ways.Way.{Way}
use Rattle.ring.specs.Ways.{uses, some_link}
use Rattle.sets.specs.Sets.{has}

-- no link in any colour
abbrev pub none : List (List ℕ)
none = replicate 128 (replicate 4 0)

-- the link is held in the colour
abbrev pub held : List (List ℕ) → ℕ → ℕ → Bool
held rows colour link = has (get_or rows colour []) link

-- four words for each colour
pub record LinkSets (rows : List (List ℕ)) : Type 0 where
  pub many : length rows ≡ 128
  pub wide : (c : ℕ) → c < 128 → length (get_or rows c []) ≡ 4

-- a request between two of 256 nodes, and a colour
pub record FitsSets (request : Request) (colour : ℕ) : Type 0 where
  pub ordered : request.a < request.b
  pub nodes : request.b < 256
  pub colours : colour < 128

-- the links of a way come to be held in a colour, and whether none of them was before
pub record Held (rows after : List (List ℕ)) (way : Way) (request : Request) (colour : ℕ) (free : Bool) : Type 0 where
  pub shape : LinkSets after
  pub links : (c link : ℕ) → c < 128 → link < 256 → held after c link ≡ (held rows c link || (eqb colour c && uses way request link))
  pub unheld : free ≡ not (some_link 256 (λ link. uses way request link && held rows colour link))

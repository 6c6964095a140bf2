-- The sets of the nodes, and what each function does to them.
use Rattle.std.specs.Prelude.{ℕ, ◌+◌, ◌*◌, ◌<◌, ◌≡◌, Bool, cond, not, ◌&&◌, ◌||◌, List, [], eqb, ltb, length, get_or}
use Rattle.std.specs.Bool.{xor}
use Rattle.sets.specs.Sets.{has}

-- number j is in the set of node x
abbrev pub member : List (List ℕ) → ℕ → ℕ → Bool
member sets x j = has (get_or sets x []) j

-- a set of eight words for each node and one more
pub record NodeSets (sets : List (List ℕ)) : Type 0 where
  pub many : length sets ≡ 257
  pub wide : (x : ℕ) → x < 257 → length (get_or sets x []) ≡ 8

-- number i is put into the set of node x
pub record Put (sets after : List (List ℕ)) (x i : ℕ) : Type 0 where
  pub node_sets : NodeSets after
  pub members : (y j : ℕ) → y < 257 → member after y j ≡ ((eqb y x && eqb j i) || member sets y j)

-- the set of node x + 1 takes in that of node x: of the numbers in the first words, those that are in exactly one of the two are left
pub record Joined (sets after : List (List ℕ)) (x words : ℕ) : Type 0 where
  pub node_sets : NodeSets after
  pub members : (y j : ℕ) → y < 257
      → member after y j ≡ cond (eqb y (x + 1) && ltb j (64 * words)) (xor (member sets (x + 1) j) (member sets x j)) (member sets y j)

-- a request has exactly one end strictly between the nodes a and b and none at them, by whether it is in the sets of a, a + 1, b and b + 1
abbrev pub crossed : Bool → Bool → Bool → Bool → Bool
crossed a behindA b behindB = xor b behindA && not (xor behindA a || xor behindB b)

-- of the numbers in the first words, those that do not cross {a, b}
pub record Uncrossed (sets : List (List ℕ)) (a b words : ℕ) (set : List ℕ) : Type 0 where
  pub wide : length set ≡ 8
  pub members : (j : ℕ) → j < 64 * words
      → has set j ≡ not (crossed (member sets a j) (member sets (a + 1) j) (member sets b j) (member sets (b + 1) j))

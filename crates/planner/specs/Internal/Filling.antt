-- What the functions inside compute when they give the spare colours to blocked requests, in a table of fate numbers.
use Rattle.std.specs.Prelude.{ℕ, ◌-◌, ◌<◌, ◌≤◌, Bool, ◌&&◌, cond, List, [], ◌∷◌, map, eqb, ltb, length}
use Rattle.ring.specs.declared.ways.Way.TheVariants.{Plain}
use Rattle.ring.specs.declared.fates.Fate.TheVariants.{Served}
use Rattle.ring.specs.Fates.{fate_number}
use Rattle.ring.specs.Plans.{fates_of}
use Rattle.planner.specs.PairPart.{filled_from}

-- the table, read as fates, after the last of the w colours, the spare ones, have been given out
abbrev pub filled_table : ℕ → ℕ → List ℕ → List ℕ
filled_table w spare table = map fate_number (filled_from spare (w - spare) (fates_of table))

-- a request with number x is blocked, and there is a spare colour
abbrev pub takes_spare : ℕ → ℕ → Bool
takes_spare spare x = eqb x 0 && ltb 0 spare

-- its number then
abbrev pub number_after : ℕ → ℕ → ℕ → ℕ
number_after w spare x = cond (takes_spare spare x) (fate_number (Served Plain (w - spare))) x

-- how many colours are spare then
abbrev pub spare_after : ℕ → ℕ → ℕ
spare_after spare x = cond (takes_spare spare x) (spare - 1) spare

-- the table after one pass over its requests, which gives the spare colours out
abbrev pub given_out : ℕ → ℕ → List ℕ → List ℕ
given_out w spare [] = []
given_out w spare (x ∷ table) = number_after w spare x ∷ given_out w (spare_after spare x) table

-- a request with an entry, and colours within the limits
pub record SpareFits (w spare i : ℕ) (table : List ℕ) : Type 0 where
  pub colours : w ≤ 128
  pub spares : spare ≤ w
  pub room : i < length table

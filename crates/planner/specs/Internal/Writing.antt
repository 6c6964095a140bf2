-- What the functions inside compute when they write the fates of the pairs into a table of fate numbers.
use Rattle.std.specs.Prelude.{ℕ, ◌+◌, ◌*◌, ◌<◌, ◌≤◌, ◌≡◌, Bool, ◌&&◌, cond, List, [], ◌∷◌, ◌++◌, map, ltb, length, set, drop}
use Rattle.ring.specs.declared.requests.Request.{Request}
use Rattle.ring.specs.declared.ways.Way.{Way}
use Rattle.ring.specs.declared.ways.Way.TheVariants.{Plain}
use Rattle.ring.specs.declared.fates.Fate.TheVariants.{Served}
use Rattle.ring.specs.Requests.{requests_of, request, ValidRequests}
use Rattle.ring.specs.Fates.{fate_number}
use Rattle.ring.specs.Internal.Sharing.{sharing}
use Rattle.ring.specs.Matchings.{IsMatching}
use Rattle.ring.specs.Routing.{seam_if, first_way}
use Rattle.matching.specs.Maximum.{pairs_of}
use Rattle.planner.specs.PairPart.{pair_fates}

-- the way of the second request, by comparing ends
abbrev pub other_way : Way → Request → Request → Way
other_way first r s = seam_if (sharing first r Plain s)

-- the table after requests i and j have got colour c as a pair
abbrev pub with_pair : ℕ → List Request → ℕ → ℕ → ℕ → List ℕ → List ℕ
with_pair n R i j c table =
    set (set table i (fate_number (Served (first_way n (request R i) (request R j)) c)))
    j (fate_number (Served (other_way (first_way n (request R i) (request R j)) (request R i) (request R j)) c))

-- request i and its mate j are a pair, i the lower one, and colour c is one of the w
abbrev pub takes : ℕ → ℕ → ℕ → ℕ → Bool
takes w i j c = ltb i j && ltb c w

-- the table after request i with its mate j
abbrev pub table_after : ℕ → ℕ → List Request → ℕ → ℕ → ℕ → List ℕ → List ℕ
table_after n w R i j c table = cond (takes w i j c) (with_pair n R i j c table) table

-- the next colour after it
abbrev pub colour_after : ℕ → ℕ → ℕ → ℕ → ℕ
colour_after w i j c = cond (takes w i j c) (c + 1) c

-- the table after the requests from i on, whose mates these are
abbrev pub written_from : ℕ → ℕ → List Request → ℕ → ℕ → List ℕ → List ℕ → List ℕ
written_from n w R i c [] table = table
written_from n w R i c (j ∷ mates) table = written_from n w R (i + 1) (colour_after w i j c) mates (table_after n w R i j c table)

-- a ring and a list of requests on it, both within the limits
pub record Within (n w : ℕ) (ends : List ℕ) : Type 0 where
  pub colours : w ≤ 128
  pub even : length ends ≡ 2 * length (requests_of ends)
  pub valid : ValidRequests n (requests_of ends)

-- two of m requests, a colour within the limits, and a table with an entry for each request
pub record PairFits (m i j c : ℕ) (table : List ℕ) : Type 0 where
  pub first : i < m
  pub second : j < m
  pub colour : c < 128
  pub room : m ≤ length table

-- one of m requests, its mate, which is a request too where it is the higher one, and a table with an entry for each
pub record MateFits (m i j : ℕ) (table : List ℕ) : Type 0 where
  pub first : i < m
  pub second : i < j → j < m
  pub room : m ≤ length table

-- mates that are a matching, and a table with an entry for each request
pub record Writable (R : List Request) (mates table : List ℕ) : Type 0 where
  pub room : length R ≤ length table
  pub matching : IsMatching R (pairs_of (length R) mates)

-- the first m entries are the fate numbers of the pairs, the others stay
abbrev pub pair_table : ℕ → ℕ → List Request → List ℕ → List ℕ → List ℕ
pair_table n w R mates table = map fate_number (pair_fates n w R (pairs_of (length R) mates)) ++ drop (length R) table

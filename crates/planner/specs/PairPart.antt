-- The pair part: the first w pairs of a matching, each in a colour of its own, and the spare colours.
use Rattle.std.specs.Prelude.{ℕ, zero, suc, ◌+◌, ◌*◌, ◌-◌, ◌<◌, min, List, [], ◌∷◌, length, take, set, replicate}
use Rattle.ring.specs.declared.requests.Request.{Request}
use Rattle.ring.specs.declared.ways.Way.TheVariants.{Plain}
use Rattle.ring.specs.declared.fates.Fate.{Fate}
use Rattle.ring.specs.declared.fates.Fate.TheVariants.{Blocked, Served}
use Rattle.ring.specs.Requests.{request}
use Rattle.ring.specs.Matchings.{Pair, pair}
use Rattle.ring.specs.Routing.{first_way, second_way}

-- "Order the pairs by their lower request number": a pair has its lower number first, and the pairs rise by it
pub record ByLower (P : List Pair) : Type 0 where
  pub lower : (k : ℕ) → k < length P → (pair P k).first < (pair P k).second
  pub rising : (j k : ℕ) → j < k → k < length P → (pair P j).first < (pair P k).first

-- the fate of a pair's first request in colour c: it goes by the way of "the lower-numbered request"
abbrev pub first_fate : ℕ → List Request → Pair → ℕ → Fate
first_fate n R p c = Served (first_way n (request R p.first) (request R p.second)) c

-- that of its second: "the other takes its one way that is disjoint from that"
abbrev pub second_fate : ℕ → List Request → Pair → ℕ → Fate
second_fate n R p c = Served (second_way n (request R p.first) (request R p.second)) c

-- the fates after the pairs have got the colours from c on, one by one, over the fates so far
abbrev pub paired_from : ℕ → List Request → ℕ → List Pair → List Fate → List Fate
paired_from n R c [] F = F
paired_from n R c (p ∷ P) F = paired_from n R (c + 1) P (set (set F p.first (first_fate n R p c)) p.second (second_fate n R p c))

-- "The first w of them, or all if fewer, get colours 0, 1 and on": the fates then, with every other request blocked
unfoldable pub pair_fates : ℕ → ℕ → List Request → List Pair → List Fate
pair_fates n w R P = paired_from n R 0 (take w P) (replicate (length R) Blocked)

-- k, the number of pairs that got colours: "the smaller of the match count and w"
abbrev pub coloured_pairs : ℕ → List Pair → ℕ
coloured_pairs w P = min (length P) w

-- the number of "the lowest request that is still blocked"; if none is, a number past the list
abbrev pub lowest_blocked : List Fate → ℕ
lowest_blocked [] = 0
lowest_blocked (Blocked ∷ F) = 0
lowest_blocked (Served way colour ∷ F) = suc (lowest_blocked F)

-- "The colours k to w−1, rising, each take the lowest request that is still blocked, plain": so many colours from c on
abbrev pub filled_from : ℕ → ℕ → List Fate → List Fate
filled_from zero c F = F
filled_from (suc spare) c F = filled_from spare (c + 1) (set F (lowest_blocked F) (Served Plain c))

-- the pairs, then the spare colours; "All other requests are blocked."
unfoldable pub pair_part : ℕ → ℕ → List Request → List Pair → List Fate
pair_part n w R P = filled_from (w - coloured_pairs w P) (coloured_pairs w P) (pair_fates n w R P)

-- "The pair count is 2k plus the smaller of w−k and m−2k"
abbrev pub pair_count : ℕ → ℕ → ℕ → ℕ
pair_count m w k = 2 * k + min (w - k) (m - 2 * k)

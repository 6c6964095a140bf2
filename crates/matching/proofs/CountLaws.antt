-- How many pairs a list of mates has.
use Prim.Native.Nat.{ℕ, suc, ◌+◌}
use mathlib.Core.Path.{◌≡◌, refl, ap}
use mathlib.Core.Bool.{Bool, true, false, cond}
use mathlib.Core.List.{List, [], ◌∷◌, ◌++◌}
use lib.Dec.{ltb}
use lib.ListN.{length, take}
use Rattle.std.specs.Prelude.{filter}
use Rattle.std.specs.List.{enumerate_from}
use Rattle.ring.specs.Matchings.{Pair}
use Rattle.ring.proofs.Counting.{bit}
use Rattle.matching.specs.Maximum.{lower_pair, pairs_from, pairs_of}

-- it has one for a request below its mate, and none for another
lower_pair_lem : (t : Bool) (i j : ℕ) → length (lower_pair t i j) ≡ bit t
lower_pair_lem true i j = refl
lower_pair_lem false i j = refl

-- a request and its mate, where the request is the lower-numbered one
abbrev pub is_lower : ℕ × ℕ → Bool
is_lower p = ltb p.0 p.1

pairs_from_lem : (t : Bool) (i j : ℕ) (pairs : List Pair) (rest : List (ℕ × ℕ)) → length pairs ≡ length rest
    → length (lower_pair t i j ++ pairs) ≡ length (cond t ((i, j) ∷ rest) rest)
pairs_from_lem true i j pairs rest e = ap (λ (n : ℕ). suc n) e
pairs_from_lem false i j pairs rest e = e

counted_from : (i : ℕ) (mates : List ℕ) → length (pairs_from i mates) ≡ length (filter is_lower (enumerate_from i mates))
counted_from i [] = refl
counted_from i (j ∷ mates) = pairs_from_lem (ltb i j) i j _ _ (counted_from (i + 1) mates)

pub pairs_counted : (m : ℕ) (mates : List ℕ) → length (pairs_of m mates) ≡ length (filter is_lower (enumerate_from 0 (take m mates)))
unfolding pairs_of
pairs_counted m mates = counted_from 0 (take m mates)

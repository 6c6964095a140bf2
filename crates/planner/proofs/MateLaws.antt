-- The pairs of a list of mates come by their lower number, and a matching has at most half as many pairs as there are requests.
use Prim.Native.Nat.{ℕ, zero, suc, ◌+◌, ◌*◌, ◌≤◌, ◌<◌}
use mathlib.Core.Path.{◌≡◌, refl}
use mathlib.Core.Bool.{Bool, true, false}
use mathlib.Core.List.{List, [], ◌∷◌, ◌++◌}
use native.Mathlib.Omega.{arith}
use lib.Dec.{ltb}
use lib.ListN.{length, take}
use borrow.Author.Tests.{ltb-true}
use Rattle.ring.specs.declared.requests.Request.{Request}
use Rattle.ring.specs.Matchings.{Pair, pair, request_numbers, IsMatching}
use Rattle.ring.proofs.Counting.{length_le}
use Rattle.matching.specs.Maximum.{lower_pair, pairs_from, pairs_of}
use Rattle.planner.specs.PairPart.{ByLower}
use Rattle.planner.proofs.Lists.{ends_all}

-- from request i on, with the lower number first
pairs_lower : (i : ℕ) (mates : List ℕ) (k : ℕ) → k < length (pairs_from i mates)
    → (i ≤ (pair (pairs_from i mates) k).first) × ((pair (pairs_from i mates) k).first < (pair (pairs_from i mates) k).second)
pairs_lower i [] k l = absurd (omega arith)
pairs_lower i (j ∷ mates) k l = one (ltb i j) (ltb-true i j) (pairs_lower (i + 1) mates) k l
  where
    rest : List Pair
    rest = pairs_from (i + 1) mates

    one : (b : Bool) → (b ≡ true → i < j)
        → ((k : ℕ) → k < length rest → (i + 1 ≤ (pair rest k).first) × ((pair rest k).first < (pair rest k).second))
        → (k : ℕ) → k < length (lower_pair b i j ++ rest)
        → (i ≤ (pair (lower_pair b i j ++ rest) k).first)
        × ((pair (lower_pair b i j ++ rest) k).first < (pair (lower_pair b i j ++ rest) k).second)
    one true h r zero l = (omega arith, h refl)
    one true h r (suc k) l = let t = r k (omega arith) in (omega arith, t.1)
    one false h r k l = let t = r k l in (omega arith, t.1)

-- by rising lower number
pairs_rising : (i : ℕ) (mates : List ℕ) (j k : ℕ) → j < k → k < length (pairs_from i mates)
    → (pair (pairs_from i mates) j).first < (pair (pairs_from i mates) k).first
pairs_rising i [] j k h l = absurd (omega arith)
pairs_rising i (x ∷ mates) j k h l = one (ltb i x) (pairs_rising (i + 1) mates) j k h l
  where
    rest : List Pair
    rest = pairs_from (i + 1) mates

    one : (b : Bool) → ((j k : ℕ) → j < k → k < length rest → (pair rest j).first < (pair rest k).first)
        → (j k : ℕ) → j < k → k < length (lower_pair b i x ++ rest)
        → (pair (lower_pair b i x ++ rest) j).first < (pair (lower_pair b i x ++ rest) k).first
    one true r zero zero h l = absurd (omega arith)
    one true r zero (suc k) h l = let t = pairs_lower (i + 1) mates k (omega arith) in omega arith
    one true r (suc j) zero h l = absurd (omega arith)
    one true r (suc j) (suc k) h l = r j k (omega arith) (omega arith)
    one false r j k h l = r j k h l

pub pairs_by_lower : (m : ℕ) (mates : List ℕ) → ByLower (pairs_of m mates)
unfolding pairs_of
pairs_by_lower m mates = record { lower = λ k l. (pairs_lower 0 (take m mates) k l).1; rising = pairs_rising 0 (take m mates) }

ends_length : (P : List Pair) → length (request_numbers P) ≡ 2 * length P
ends_length [] = refl
ends_length (p ∷ P) = omega (arith, ends_length P)

-- all numbers of the pairs are different and below m
pub matching_size : (R : List Request) (P : List Pair) → IsMatching R P → 2 * length P ≤ length R
matching_size R P matching = omega (
  arith,
  ends_length P,
  length_le (request_numbers P) (length R) (ends_all (λ x. x < length R) P matching.numbers) matching.once,
)

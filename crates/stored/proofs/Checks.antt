-- The sum of the check, as a walk over the bytes of a block sees it.
use Prim.Native.Nat.{ℕ, ◌+◌, ◌*◌, ◌≤◌, ◌<◌}
use mathlib.Core.Path.{◌≡◌, ap}
use mathlib.Core.List.{List}
use native.Mathlib.Omega.{arith}
use native.Mathlib.Nat.{mul-le-mul}
use lib.ListN.{length, get_or, take, drop, drop_of_length-le}
use lib.Seq.{length-take-le}
use Rattle.stored.specs.Blocks.{weighted}
use Rattle.ring.proofs.ListLaws.{drop_next}

pub term_bound : (x i : ℕ) → x < 256 → i < 510 → x * (i + 1) ≤ 130050
term_bound x i h k = mul-le-mul {n₁ = x} {m₁ = i + 1} {n₂ = 255} {m₂ = 510} (omega arith) (omega arith)

pub weighed_length : (l : List ℕ) → length l ≡ 512 → length (take 510 l) ≡ 510
weighed_length l e = length-take-le 510 l (omega arith)

pub sum_next : (xs : List ℕ) (i : ℕ) → i < length xs → weighted i (drop i xs) ≡ get_or xs i 0 * (i + 1) + weighted (i + 1) (drop (i + 1) xs)
sum_next xs i h = ap (weighted i) (drop_next xs i 0 h)

pub sum_ended : (xs : List ℕ) (i : ℕ) → length xs ≤ i → weighted i (drop i xs) ≡ 0
sum_ended xs i h = ap (weighted i) (drop_of_length-le xs h)

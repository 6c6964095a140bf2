-- One word of the sets, bit by bit.
use Prim.Native.Nat.{ℕ, ◌-◌, ◌^◌, ◌<◌}
use mathlib.Core.Path.{◌≡◌}
use mathlib.Core.Bool.{not}
use native.Mathlib.Nat.{lt_of_le_of_lt}
use lib.Bits.{bit_and, bit_or, bit_xor, and_le_l, or_lt, xor_lt}
use Rattle.sets.proofs.BitLaws.{on, on_and, on_or, on_xor, on_not}
use Rattle.neighbours.specs.Internal.NodeSets.{crossed}

-- the requests that do not cross, from words of 64 digits
pub on_uncrossed : (a behindA b behindB k : ℕ) → a < 2 ^ 64 → behindA < 2 ^ 64 → b < 2 ^ 64 → behindB < 2 ^ 64 → k < 64
    → on (2 ^ 64 - 1 - bit_and (bit_xor b behindA) (2 ^ 64 - 1 - bit_or (bit_xor behindA a) (bit_xor behindB b))) k
    ≡ not (crossed (on a k) (on behindA k) (on b k) (on behindB k))
on_uncrossed a behindA b behindB k ha hA hb hB h =
    let between = bit_xor b behindA in
    let ends = bit_or (bit_xor behindA a) (bit_xor behindB b) in
    let small : between < 2 ^ 64 = xor_lt 64 b behindA hb hA in
    let few : ends < 2 ^ 64 = or_lt 64 (bit_xor behindA a) (bit_xor behindB b) (xor_lt 64 behindA a hA ha) (xor_lt 64 behindB b hB hb) in
    cc (
      on_not 64 (bit_and between (2 ^ 64 - 1 - ends)) k (lt_of_le_of_lt (and_le_l between (2 ^ 64 - 1 - ends)) small) h,
      on_and between (2 ^ 64 - 1 - ends) k,
      on_xor b behindA k,
      on_not 64 ends k few h,
      on_or (bit_xor behindA a) (bit_xor behindB b) k,
      on_xor behindA a k,
      on_xor behindB b k,
    )

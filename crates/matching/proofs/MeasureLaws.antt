-- The sizes of the sets, request by request.
use Prim.Native.Nat.{ℕ, zero, suc, ◌+◌, ◌*◌, ◌^◌, ◌<◌, ◌≤◌, max}
use mathlib.Core.Path.{◌≡◌, refl, ◌∙◌}
use mathlib.Core.List.{List}
use native.Mathlib.Numerals.{add-one}
use native.Mathlib.Omega.{arith}
use lib.ListN.{length, get_or, set, take}
use lib.Count.{ones-le}
use Rattle.std.specs.Int.Count.{ones}
use Rattle.std.proofs.lemmas.List.Sums.{sum_by-le}
use Rattle.std.proofs.lemmas.List.Elements.{All-from_get_or}
use lib.Seq.{get_or-set_same, get_or-set_other}
use borrow.Author.Tests.{eqb-false}
use Rattle.ring.specs.declared.requests.Request.{Request}
use Rattle.ring.proofs.Cases.{same, different, test}
use Rattle.neighbours.specs.Neighbours.{Neighbours}
use Rattle.matching.specs.Internal.Start.{bits_set, largest_of, Measured}

-- a store changes nothing before it
largest_before : (l : List ℕ) (i v k : ℕ) → k ≤ i → largest_of (set l i v) k ≡ largest_of l k
largest_before l i v zero h = refl
largest_before l i v (suc k) h = cc (largest_before l i v k (omega arith), get_or-set_other l i k v 0 (λ e. omega arith))

pub measured_start : (R : List Request) (words : ℕ) (sizes : List ℕ) → Measured R 0 words sizes 0
measured_start R words sizes = record { each = λ i h. absurd (omega arith); largest_is = refl }

pub measured_turn : {R : List Request} {i words : ℕ} {sizes : List ℕ} {largest : ℕ} → Measured R i words sizes largest → i < length sizes
    → {around : List ℕ} {size : ℕ} → Neighbours R i around → size ≡ bits_set (take words around)
    → Measured R (i + 1) words (set sizes i size) (max largest size)
measured_turn {i = i} {sizes = sizes} M h {around} {size} N e =
    let here = get_or-set_same sizes i size 0 h in
    record {
      each = λ j k. elim (test j i) [
        | same p q ↦ rw p (around, N, here ∙ e)
        | different d ↦
            let apart = eqb-false j i d.left in
            let old = M.each j (omega arith) in
            (old.0, old.1, get_or-set_other sizes i j size 0 apart ∙ old.2)
      ];
      largest_is = rw add-one (cc (M.largest_is, largest_before sizes i size i (omega arith)));
    }

-- a word has at most 64 bits
pub bits_few : (words : List ℕ) → ((k : ℕ) → get_or words k 0 < 2 ^ 64) → bits_set words ≤ length words * 64
bits_few words h = sum_by-le ones 64 words (All-from_get_or (λ x. ones x ≤ 64) words 0 (λ i l. ones-le 64 (get_or words i 0) (h i)))

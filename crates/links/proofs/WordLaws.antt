-- One word of the links of a way, bit by bit.
use Prim.Native.Nat.{ℕ, ◌+◌, ◌-◌, ◌*◌, ◌%◌, ◌^◌, ◌<◌, ◌≤◌}
use mathlib.Core.Path.{◌≡◌, ap, ◌∙◌}
use mathlib.Core.Bool.{not, xor}
use native.Mathlib.Omega.{arith}
use lib.Bits.{bit_xor, xor_lt}
use lib.Dec.{ltb}
use borrow.Author.Tests.{lt-ltb, le-ltb, le-leb, lt-leb}
use Rattle.ring.specs.declared.requests.Request.{Request}
use Rattle.ring.specs.declared.ways.Way.TheVariants.{Plain, Seam}
use Rattle.ring.specs.Ways.{uses}
use Rattle.ring.proofs.Cases.{less, not_less, compare}
use Rattle.sets.proofs.BitLaws.{on, bit_zero, on_xor, on_not}
use Rattle.sets.proofs.NextLaws.{on_mask}

-- ---- the links below t: none of the word, all of it, or its lowest

module _ (t k i : ℕ) where
  pub below_none : t ≤ 64 * k → on 0 i ≡ ltb (64 * k + i) t
  below_none h = cc (bit_zero i, le-ltb (64 * k + i) t (omega arith))

  pub below_all : i < 64 → 64 * k + 64 ≤ t → on (2 ^ 64 - 1) i ≡ ltb (64 * k + i) t
  below_all l h = on_not 64 0 i (omega arith) l ∙ cc (bit_zero i, lt-ltb (64 * k + i) t (omega arith))

  pub below_some : i < 64 → 64 * k < t → on (2 ^ 64 - 1 - (2 ^ 64 - 1) * 2 ^ (t - 64 * k) % 2 ^ 64) i ≡ ltb (64 * k + i) t
  below_some l h =
      on_not 64 ((2 ^ 64 - 1) * 2 ^ (t - 64 * k) % 2 ^ 64) i (omega arith) l
      ∙ ap not (on_mask (t - 64 * k) i l)
      ∙ elim (compare (64 * k + i) t) [
        | less b e ↦ cc (lt-leb (t - 64 * k) i (omega arith))
        | not_less b e ↦ cc (le-leb (t - 64 * k) i (omega arith))
      ]

-- ---- the links of a way, from those below its ends

module _ (r : Request) (k i first last : ℕ) (h : r.a < r.b) (low : on first i ≡ ltb (64 * k + i) r.a)
    (high : on last i ≡ ltb (64 * k + i) r.b) where
  pub on_plain : on (bit_xor last first) i ≡ uses Plain r (64 * k + i)
  unfolding uses xor
  on_plain = on_xor last first i ∙ elim (compare (64 * k + i) r.a) [
    | less b e ↦ cc (lt-leb r.a (64 * k + i) b, lt-ltb (64 * k + i) r.b (omega arith))
    | not_less b e ↦ elim (compare (64 * k + i) r.b) [
      | less c f ↦ cc (le-leb r.a (64 * k + i) b)
      | not_less c f ↦ cc (le-leb r.a (64 * k + i) b)
    ]
  ]

  pub on_seam : last < 2 ^ 64 → first < 2 ^ 64 → i < 64 → on (2 ^ 64 - 1 - bit_xor last first) i ≡ uses Seam r (64 * k + i)
  unfolding uses
  on_seam u v l = on_not 64 (bit_xor last first) i (xor_lt 64 last first u v) l ∙ ap not on_plain

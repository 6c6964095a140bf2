-- The search for the next number of a set, word by word.
use Prim.Native.Nat.{ℕ, ◌+◌, ◌-◌, ◌*◌, ◌/◌, ◌%◌, ◌^◌, ◌<◌, ◌≤◌}
use mathlib.Core.Path.{◌≡◌, sym, ap, ◌∙◌}
use mathlib.Core.Bool.{true, false, and-true, and-false, true≢false}
use mathlib.Core.List.{List}
use native.Mathlib.Decide.{dec_lt}
use native.Mathlib.Omega.{arith}
use lib.Bits.{bit_and}
use lib.Dec.{eqb, leb}
use lib.ListN.{get_or}
use borrow.Author.Tests.{le-leb, lt-leb}
use Rattle.sets.specs.Sets.{bit, has}
use Rattle.sets.proofs.BitLaws.{on, bit_zero, bit_mod, on_and, on_ones}
use Rattle.sets.proofs.SetLaws.{has_word}

-- No number from `from` on is in a word before k, and of word k only those from `from` on are left.
pub record Rest (words : List ℕ) (from k word : ℕ) : Type 0 where
  pub reached : from < 64 * k + 64
  pub passed : (z : ℕ) → from ≤ z → z < 64 * k → has words z ≡ false
  pub left : (z : ℕ) → z / 64 ≡ k → from ≤ z → on word (z % 64) ≡ has words z
  pub dropped : (z : ℕ) → z / 64 ≡ k → z < from → on word (z % 64) ≡ false

-- all 64 digits shifted up by j, in 64 digits
pub on_mask : (j k : ℕ) → k < 64 → on ((2 ^ 64 - 1) * 2 ^ j % 2 ^ 64) k ≡ leb j k
on_mask j k h = ap (λ (d : ℕ). eqb d 1) (bit_mod 64 ((2 ^ 64 - 1) * 2 ^ j) k h) ∙ on_ones 64 j k h

-- No number from `from` on is in a word before k, and the mask has the places of word k from `from` on.
pub record Masked (words : List ℕ) (from k mask : ℕ) : Type 0 where
  pub reached : from < 64 * k + 64
  pub passed : (z : ℕ) → from ≤ z → z < 64 * k → has words z ≡ false
  pub kept : (z : ℕ) → z / 64 ≡ k → from ≤ z → on mask (z % 64) ≡ true
  pub dropped : (z : ℕ) → z / 64 ≡ k → z < from → on mask (z % 64) ≡ false

-- all 64 digits
on_all : (k : ℕ) → k < 64 → on (2 ^ 64 - 1) k ≡ true
on_all k h = ap (λ (n : ℕ). on n k) (omega arith) ∙ on_mask 0 k h ∙ le-leb 0 k (omega arith)

module _ (words : List ℕ) (from : ℕ) where
  pub masked_start : Masked words from (from / 64) ((2 ^ 64 - 1) * 2 ^ (from % 64) % 2 ^ 64)
  masked_start = record {
    reached = omega arith;
    passed = λ z h l. absurd (omega arith);
    kept = λ z e h. on_mask (from % 64) (z % 64) (omega arith) ∙ le-leb (from % 64) (z % 64) (omega arith);
    dropped = λ z e h. on_mask (from % 64) (z % 64) (omega arith) ∙ lt-leb (from % 64) (z % 64) (omega arith);
  }

  -- what is left of word k
  pub masked_rest : (k mask : ℕ) → Masked words from k mask → Rest words from k (bit_and (get_or words k 0) mask)
  masked_rest k mask M = record {
    reached = M.reached;
    passed = M.passed;
    left = λ z e h. cc (
      on_and (get_or words k 0) mask (z % 64),
      M.kept z e h,
      has_word words k z e,
      and-true (on (get_or words k 0) (z % 64)),
    );
    dropped = λ z e h. cc (on_and (get_or words k 0) mask (z % 64), M.dropped z e h, and-false (on (get_or words k 0) (z % 64)));
  }

  -- a word that has none left
  pub rest_passed : (k word : ℕ) → word ≡ 0 → Rest words from k word → (z : ℕ) → from ≤ z → z < 64 * (k + 1) → has words z ≡ false
  rest_passed k word e s z h l = elim (dec_lt z (64 * k)) [
    | yes b ↦ s.passed z h b
    | no n ↦
        sym (s.left z (omega arith) h)
        ∙ ap (λ (w : ℕ). on w (z % 64)) e
        ∙ ap (λ (d : ℕ). eqb d 1) (bit_zero (z % 64))
  ]

  pub masked_turn : (k word : ℕ) → word ≡ 0 → Rest words from k word → Masked words from (k + 1) (2 ^ 64 - 1)
  masked_turn k word e s = record {
    reached = omega (arith, s.reached);
    passed = rest_passed k word e s;
    kept = λ z f h. on_all (z % 64) (omega arith);
    dropped = λ z f h. absurd (omega (arith, s.reached));
  }

  -- a word that has some, t the lowest
  module _ (k word t : ℕ) (s : Rest words from k word) (h : t < 64) (at : bit word t ≡ 1) (below : (i : ℕ) → i < t → bit word i ≡ 0) where
    on_lowest : on word ((64 * k + t) % 64) ≡ true
    on_lowest =
        let place : (64 * k + t) % 64 ≡ t = omega arith in
        ap (λ (i : ℕ). on word i) place ∙ ap (λ (d : ℕ). eqb d 1) at

    pub rest_from : from ≤ 64 * k + t
    rest_from = elim (dec_lt (64 * k + t) from) [
      | yes b ↦ absurd (true≢false (sym on_lowest ∙ s.dropped (64 * k + t) (omega arith) b))
      | no n ↦ omega arith
    ]

    pub rest_before : (z : ℕ) → from ≤ z → z < 64 * k + t → has words z ≡ false
    rest_before z l b = elim (dec_lt z (64 * k)) [
      | yes p ↦ s.passed z l p
      | no n ↦ sym (s.left z (omega arith) l) ∙ ap (λ (d : ℕ). eqb d 1) (below (z % 64) (omega arith))
    ]

    pub rest_found : has words (64 * k + t) ≡ true
    rest_found = sym (s.left (64 * k + t) (omega arith) rest_from) ∙ on_lowest

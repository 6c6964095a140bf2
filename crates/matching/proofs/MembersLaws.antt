-- A loop over the numbers of a set below m.
use Prim.Native.Nat.{ℕ, ◌+◌, ◌≤◌}
use mathlib.Core.Path.{◌≡◌, ◌∙◌}
use mathlib.Core.List.{List}
use native.Mathlib.Omega.{arith}
use Rattle.std.proofs.Common.{Some, None}
use Rattle.sets.specs.declared.Walk.{Walk}
use Rattle.sets.specs.Sets.{NoneFrom, Next, Walks}

-- the walk has passed the numbers below its `from`
pub record Walking (w : Walk) (words : List ℕ) (m : ℕ) : Type 0 where
  pub words_are : w.words.now ≡ words
  pub end_is : w.end ≡ m
  pub within : w.from ≤ m

module _ {w : Walk} {words : List ℕ} {m : ℕ} where
  pub walking_begins : (w.words.now ≡ words) × (w.from ≡ 0) × (w.end ≡ m) → Walking w words m
  walking_begins W = record { words_are = W.0; end_is = W.2; within = omega (arith, W.1) }

  module _ (W : Walking w words m) where
    -- the next number, and the walk behind it
    pub walking_next : (z : ℕ) (after : Walk) → Walks w.words.now w.from w.end (Some z) after.words.now after.from after.end
        → Next words w.from m z × (after.from ≡ z + 1) × Walking after words m
    walking_next z after S =
        let next = rw (W.words_are, W.end_is) at S.came.0 in (
          next,
          S.came.1,
          record { words_are = S.words_kept ∙ W.words_are; end_is = S.end_kept ∙ W.end_is; within = omega (arith, S.came.1, next.most) },
        )

    -- there is none
    pub walking_ends : (words' : List ℕ) (from' end' : ℕ) → Walks w.words.now w.from w.end None words' from' end' → NoneFrom words w.from m
    walking_ends words' from' end' S = rw (W.words_are, W.end_is) at S.came.0

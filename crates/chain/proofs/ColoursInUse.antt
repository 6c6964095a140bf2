-- The colours in use come first: what is found among them, or the next one, is the pick among all. Assumes nothing.
use Prim.Native.Nat.{ℕ, ◌+◌, ◌≤◌, ◌<◌, max}
use mathlib.Core.Path.{◌≡◌, sym, ap, subst, ◌∙◌}
use mathlib.Core.Logic.{◌⊎◌, inl, inr, ◌≢◌, ⊎_elim}
use mathlib.Core.Bool.{Bool}
use mathlib.Core.List.{List}
use native.Mathlib.Decide.{ℕ_discrete}
use native.Mathlib.Omega.{arith}
use lib.ListN.{length, get_or, set, take, replicate}
use borrow.Author.Count.{below_none}
use lib.Seq.{take-set-lt, get_or-take, length-take-le, get_or-set_same, get_or-set_other}
use lib.Dec.{eqb, ltb}
use borrow.Author.Tests.{eqb-true, eqb-false, lt-ltb, le-ltb}
use Rattle.std.proofs.lemmas.Bool.{cases_lt}
use Rattle.std.proofs.lemmas.List.Sums.{fails_before_first, passes_at_first}
use Rattle.std.specs.Prelude.{Option, Some, None, position}
use Rattle.std.specs.Bool.{then_some}
use Rattle.std.specs.List.{position_or_len}
use Rattle.chain.specs.Rule.{pick, with_pick, BestFit, BestPick}
use Rattle.chain.specs.Internal.Walk.{Greatest, FirstWith, InUse}
use Rattle.chain.proofs.Basics.{same_at}
use Rattle.chain.proofs.Picking.{pick_is_chosen}
use Rattle.chain.proofs.BestTurns.{first_is_pick}

-- ---- the first colours, as the loops see them

module _ (latest : List ℕ) (used : ℕ) (room : used ≤ length latest) where
  pub greatest_in : (a top : ℕ) → Greatest (take used latest) (length (take used latest)) a top → Greatest latest used a top
  greatest_in a top g =
      record {
        fits = g.fits;
        most = λ d l fits.
            let here = get_or-take used latest d 0 l in
            omega (arith, g.most d (omega (arith, length-take-le used latest room)) (omega arith));
        met = λ none. g.met (λ d l e.
            let inside : d < used = omega (arith, length-take-le used latest room) in
            none d inside (sym (get_or-take used latest d 0 inside) ∙ e));
      }

  pub first_in : (top : ℕ) → FirstWith latest used top (position (λ e. eqb e top) (take used latest))
  first_in top = go (cases_lt n (length xs))
    where
      p : ℕ → Bool
      p = λ e. eqb e top

      xs : List ℕ
      xs = take used latest

      n : ℕ
      n = position_or_len p xs

      fails : (d : ℕ) → d < used → d < n → get_or latest d 0 ≡ top → ⊥
      fails d l m e = eqb-false (get_or xs d 0) top (fails_before_first p xs d 0 m) (get_or-take used latest d 0 l ∙ e)

      go : (n < length xs) ⊎ (length xs ≤ n) → FirstWith latest used top (position p xs)
      go (inl h) =
          let inside : n < used = omega (arith, length-take-le used latest room) in
          let found : get_or xs n 0 ≡ top = eqb-true (get_or xs n 0) top (passes_at_first p xs 0 h) in
          simp (lt-ltb n (length xs) h) (inside, sym (get_or-take used latest n 0 inside) ∙ found, λ d l. fails d (omega arith) l)
      go (inr h) = simp (le-ltb n (length xs) h) (λ d l. fails d l (omega (arith, length-take-le used latest room)))

-- ---- at the start no colour is in use

pub none_in_use : (w : ℕ) → InUse 0 w (replicate 128 0)
none_in_use w = record { within = omega arith; above = below_none _; rest = λ d l. same_at 128 d 0 }

-- ---- what is found among them is the pick

module _ (latest : List ℕ) (used w : ℕ) (I : InUse used w latest) where
  module _ (a top : ℕ) (room : w ≤ length latest) (g : Greatest latest used a top) where
    -- the other latest ends are 0
    greatest_of_all : Greatest latest w a top
    greatest_of_all =
        record {
          fits = g.fits;
          most = λ d l fits. ⊎_elim (λ inside. g.most d inside fits) (λ outside. omega (arith, I.rest d outside)) (cases_lt d used);
          met = λ none. g.met (λ d l. none d (omega (arith, I.within)));
        }

    -- an end above 0 is found among the colours in use
    pub used_is_pick : (p : Option ℕ) → top ≢ 0 → FirstWith latest used top p → p ≡ pick (take w latest) a
    used_is_pick p n f = first_is_pick latest w a top room greatest_of_all p (first p f)
      where
        first : (p : Option ℕ) → FirstWith latest used top p → FirstWith latest w top p
        first (Some c) f = (omega (arith, f.0, I.within), f.1, f.2)
        first None none = absurd (n (g.met none))

    -- the end 0 is the next colour's
    pub unused_is_pick : top ≡ 0 → then_some (ltb used w) used ≡ pick (take w latest) a
    unused_is_pick z = first_is_pick latest w a top room greatest_of_all (then_some (ltb used w) used) (rw z (first (cases_lt used w)))
      where
        first : (used < w) ⊎ (w ≤ used) → FirstWith latest w 0 (then_some (ltb used w) used)
        first (inl more) = simp (lt-ltb used w more) (more, I.rest used (omega arith), I.above)
        first (inr full) = simp (le-ltb used w full) (λ d l. I.above d (omega arith))

  module _ (a b : ℕ) (room : w ≤ length latest) (positive : 0 < b) where
    -- a pick is a colour in use, or the next one
    pick_seen : (c : ℕ) → BestFit (take w latest) a c → (c < w) × (c ≤ used)
    pick_seen c h =
        let inside : c < w = omega (arith, h.inside, length-take-le w latest room) in
        let here = get_or-take w latest c 0 inside in (
          inside,
          ⊎_elim
              (λ (over : used < c).
              let there = get_or-take w latest used 0 (omega arith) in
              omega (
                arith,
                I.rest used (omega arith),
                I.rest c (omega arith),
                h.lowest used over (omega (arith, I.rest used (omega arith))),
              ))
              (λ l. l)
              (cases_lt used c),
        )

    -- after it the colours in use still come first
    pub in_use_after : (c : ℕ) → BestFit (take w latest) a c → InUse (max used (c + 1)) w (set latest c b)
    in_use_after c h =
        let seen = pick_seen c h in
        record {
          within = omega (arith, I.within);
          above = λ d l z. used_now seen d l z (ℕ_discrete d c);
          rest = λ d l.
              let other : d ≢ c = λ q. omega arith in
              get_or-set_other latest c d b 0 other ∙ I.rest d (omega arith);
        }
      where
        used_now : (c < w) × (c ≤ used) → (d : ℕ) → d < max used (c + 1) → get_or (set latest c b) d 0 ≡ 0 → Dec (d ≡ c) → ⊥
        used_now seen d l z (yes q) = omega (arith, get_or-set_same latest c b 0 (omega arith), ap (λ (x : ℕ). get_or (set latest c b) x 0) q)
        used_now seen d l z (no n) = I.above d (omega arith) (sym (get_or-set_other latest c d b 0 n) ∙ z)

-- what a pick leaves: a colour of the ring's, colours in use that still come first, and the latest ends of the rule
pub record Picked (latest : List ℕ) (used w : ℕ) (now : List ℕ) (a b c : ℕ) : Type 0 where
  pub below : c < 128
  pub in_use : InUse (max used (c + 1)) w (set latest c b)
  pub left : take w (set latest c b) ≡ with_pick now (pick now a) b

pub picked : (latest : List ℕ) (used w : ℕ) (now : List ℕ) (a b c : ℕ) → (w ≤ 128) × InUse used w latest → length latest ≡ 128
    → take w latest ≡ now → 0 < b → Some c ≡ pick now a → Picked latest used w now a b c
picked latest used w now a b c I size view positive is =
    let room : w ≤ length latest = omega (arith, I.0) in
    let best : BestFit (take w latest) a c =
    subst (BestPick (take w latest) a) (ap (λ (l : List ℕ). pick l a) view ∙ sym is) (pick_is_chosen (take w latest) a) in
    let seen = pick_seen latest used w I.1 a b room positive c best in
    record {
      below = omega (arith, I.0, seen.0);
      in_use = in_use_after latest used w I.1 a b room positive c best;
      left = take-set-lt w latest c b seen.0 ∙ ap (λ (l : List ℕ). set l c b) view ∙ ap (λ (p : Option ℕ). with_pick now p b) is;
    }

-- The first colour with the greatest latest end is the pick. Assumes nothing.
use Prim.Native.Nat.{ℕ, ◌≤◌, ◌<◌}
use mathlib.Core.Path.{◌≡◌, refl, ap}
use mathlib.Core.Logic.{⊎_elim}
use mathlib.Core.List.{List}
use native.Mathlib.Omega.{arith}
use lib.ListN.{length, get_or, take}
use lib.Seq.{get_or-take, length-take-le}
use Rattle.std.proofs.lemmas.Bool.{cases_lt}
use Rattle.std.specs.Prelude.{Option, Some, None}
use Rattle.chain.specs.Rule.{pick, BestFit, BestPick}
use Rattle.chain.specs.Internal.Walk.{Greatest, FirstWith}
use Rattle.chain.proofs.Picking.{pick_is_chosen}

-- no two picks are what the sentence says
module _ (latest : List ℕ) (a : ℕ) where
  not_above : (c d : ℕ) → BestFit latest a c → BestFit latest a d → c ≤ d
  not_above c d hc hd =
      ⊎_elim (λ l. omega (arith, hc.lowest d l hd.fits, hd.greatest c hc.inside hc.fits)) (λ l. l) (cases_lt d c)

  chosen_once : (p q : Option ℕ) → BestPick latest a p → BestPick latest a q → p ≡ q
  chosen_once (Some c) (Some d) hc hd =
      let same : c ≡ d = omega (arith, not_above c d hc hd, not_above d c hd hc) in
      ap Some same
  chosen_once (Some c) None hc none = absurd (omega (arith, none c hc.inside, hc.fits))
  chosen_once None (Some d) none hd = absurd (omega (arith, none d hd.inside, hd.fits))
  chosen_once None None none none' = refl

module _ (latest : List ℕ) (w a top : ℕ) (room : w ≤ length latest) (g : Greatest latest w a top) where
  within : (d : ℕ) → d < length (take w latest) → d < w
  within d l = omega (arith, length-take-le w latest room)

  first_chosen : (p : Option ℕ) → FirstWith latest w top p → BestPick (take w latest) a p
  first_chosen (Some c) f =
      let here = get_or-take w latest c 0 f.0 in
      record {
        inside = omega (arith, length-take-le w latest room);
        fits = omega (arith, g.fits);
        greatest = λ d l fits.
            let there = get_or-take w latest d 0 (within d l) in
            omega (arith, g.most d (within d l) (omega arith));
        lowest = λ d l fits.
            let inside : d < w = omega arith in
            let there = get_or-take w latest d 0 inside in
            let other = f.2 d l in
            omega (arith, g.most d inside (omega arith));
      }
  first_chosen None none = λ d l.
      let there = get_or-take w latest d 0 (within d l) in
      ⊎_elim (λ over. omega arith) (λ fits. absurd (none d (within d l) (omega (arith, g.met none, g.most d (within d l) fits))))
      (cases_lt a (get_or latest d 0))

  -- what the loops find is the pick
  pub first_is_pick : (p : Option ℕ) → FirstWith latest w top p → p ≡ pick (take w latest) a
  first_is_pick p f = chosen_once (take w latest) a p (pick (take w latest) a) (first_chosen p f) (pick_is_chosen (take w latest) a)

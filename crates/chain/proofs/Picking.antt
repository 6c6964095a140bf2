-- The pick is what the sentence says: the greatest latest end not above a, at the lowest colour. Assumes nothing.
use Prim.Native.Nat.{ℕ, zero, suc, ◌+◌, ◌≤◌, ◌<◌, max}
use mathlib.Core.Path.{◌≡◌, refl, subst}
use mathlib.Core.Logic.{◌⊎◌, inl, inr, ⊎_elim}
use mathlib.Core.List.{List, [], ◌∷◌}
use mathlib.Core.Bool.{cond}
use native.Mathlib.Nat.{not-suc-le-zero, le_of_suc-le-suc}
use native.Mathlib.Omega.{arith}
use lib.ListN.{length, get_or}
use lib.Dec.{ltb}
use borrow.Author.Tests.{le-leb, lt-leb, le-ltb, lt-ltb}
use Rattle.std.proofs.lemmas.Bool.{cases_lt}
use Rattle.chain.specs.Rule.{rank, best_rank, best_colour, choose, pick, BestFit, BestPick, PickIsBest}

rank_fits : (end a : ℕ) → end ≤ a → rank end a ≡ end + 1
rank_fits end a h = simp (le-leb end a h)

rank_above : (end a : ℕ) → a < end → rank end a ≡ 0
rank_above end a h = simp (lt-leb end a h)

best_grows : (latest : List ℕ) (a top : ℕ) → top ≤ best_rank latest a top
best_grows [] a top = omega arith
best_grows (end ∷ latest) a top = omega (arith, best_grows latest a (max top (rank end a)))

-- every rank is at most the best
best_most : (latest : List ℕ) (a top d : ℕ) → d < length latest → rank (get_or latest d 0) a ≤ best_rank latest a top
best_most [] a top d h = absurd (not-suc-le-zero h)
best_most (end ∷ latest) a top zero h = omega (arith, best_grows latest a (max top (rank end a)))
best_most (end ∷ latest) a top (suc d) h = best_most latest a (max top (rank end a)) d (le_of_suc-le-suc h)

-- r is the colour, from c on, of the first end that is not above a and has the rank t, which is above top
record Hit (latest : List ℕ) (a top c r t : ℕ) : Type 0 where
  k : ℕ
  there : r ≡ c + k
  inside : k < length latest
  ranked : get_or latest k 0 + 1 ≡ t
  fits : get_or latest k 0 ≤ a
  above : top < t
  first : (d : ℕ) → d < k → rank (get_or latest d 0) a < t

further : (end : ℕ) (latest : List ℕ) (a top c r t : ℕ) → Hit latest a (max top (rank end a)) (c + 1) r t → Hit (end ∷ latest) a top c r t
further end latest a top c r t h =
    record {
      k = suc h.k;
      there = omega arith;
      inside = omega arith;
      ranked = h.ranked;
      fits = h.fits;
      above = omega arith;
      first = before;
    }
  where
    before : (d : ℕ) → d < suc h.k → rank (get_or (end ∷ latest) d 0) a < t
    before zero l = omega arith
    before (suc d) l = h.first d (le_of_suc-le-suc l)

-- the best rank and its colour are those so far, or the list has them
best_hit : (latest : List ℕ) (a top c at : ℕ)
    → ((best_rank latest a top ≡ top) × (best_colour latest a top c at ≡ at))
    ⊎ Hit latest a top c (best_colour latest a top c at) (best_rank latest a top)
best_hit [] a top c at = inl (refl, refl)
best_hit (end ∷ latest) a top c at = go (cases_lt top (rank end a)) (cases_lt a end) (best_hit latest a m (c + 1) d)
  where
    m : ℕ
    m = max top (rank end a)

    d : ℕ
    d = cond (ltb top (rank end a)) c at

    t : ℕ
    t = best_rank latest a m

    r : ℕ
    r = best_colour latest a m (c + 1) d

    go : (top < rank end a) ⊎ (rank end a ≤ top) → (a < end) ⊎ (end ≤ a) → ((t ≡ m) × (r ≡ d)) ⊎ Hit latest a m (c + 1) r t
        → ((t ≡ top) × (r ≡ at)) ⊎ Hit (end ∷ latest) a top c r t
    go x z (inr hit) = inr (further end latest a top c r t hit)
    go (inl more) (inl over) (inl q) = absurd (omega (arith, rank_above end a over))
    go (inl more) (inr fits) (inl q) =
        let same : d ≡ c = simp (lt-ltb top (rank end a) more) in
        inr
        (record {
          k = 0;
          there = omega arith;
          inside = omega arith;
          ranked = omega (arith, rank_fits end a fits);
          fits = fits;
          above = omega arith;
          first = λ d l. absurd (not-suc-le-zero l);
        })
    go (inr less) z (inl q) =
        let same : d ≡ at = simp (le-ltb top (rank end a) less) in
        inl (omega arith, omega arith)

-- the rule's pick is the best fit, and nothing only where nothing fits
pub pick_is_chosen : PickIsBest
unfolding pick
pick_is_chosen latest a = go (best_rank latest a 0) (best_colour latest a 0 0 0) refl refl (best_hit latest a 0 0 0)
  where
    go : (t r : ℕ) → best_rank latest a 0 ≡ t → best_colour latest a 0 0 0 ≡ r
        → ((best_rank latest a 0 ≡ 0) × (best_colour latest a 0 0 0 ≡ 0)) ⊎ Hit latest a 0 0 (best_colour latest a 0 0 0) (best_rank latest a 0)
        → BestPick latest a (choose t r)
    go zero r et er h = λ d l.
        ⊎_elim (λ over. over) (λ fits. omega (arith, best_most latest a 0 d l, rank_fits (get_or latest d 0) a fits))
        (cases_lt a (get_or latest d 0))
    go (suc t) r et er (inl h) = absurd (omega arith)
    go (suc t) r et er (inr h) =
        let same : h.k ≡ r = omega arith in
        subst (BestFit latest a) same
        (record {
          inside = h.inside;
          fits = h.fits;
          greatest = λ d l fits. omega (arith, best_most latest a 0 d l, rank_fits (get_or latest d 0) a fits);
          lowest = λ d l fits. omega (arith, h.first d l, rank_fits (get_or latest d 0) a fits);
        })

-- A colouring is allowed one interval after the other, and what is allowed so is a colouring: the interval theorem. Assumes nothing.
use Prim.Native.Nat.{ℕ, zero, suc, ◌≤◌, ◌<◌}
use mathlib.Core.Path.{◌≡◌, refl, sym, ap, subst}
use mathlib.Core.Logic.{◌⊎◌, inl, inr, ⊎_elim, ◌≢◌}
use mathlib.Core.List.{List, [], ◌∷◌}
use native.Mathlib.Nat.{not-suc-le-zero, le_of_suc-le-suc, suc_inj}
use native.Mathlib.Decide.{ℕ_discrete}
use native.Mathlib.Omega.{arith}
use lib.ListN.{length, get_or, set, replicate, length-set, length-replicate, get_or-replicate}
use lib.Seq.{get_or-set_same, get_or-set_other}
use Rattle.std.proofs.lemmas.Bool.{cases_lt}
use Rattle.std.specs.Prelude.{Option, Some, None}
use Rattle.chain.specs.Rule.{pick, with_pick, BestPick}
use Rattle.chain.proofs.Picking.{pick_is_chosen}
use Rattle.chain.proofs.Intervals.{Interval, interval, Sorted, Colouring, picks, BestFitIsOptimal, Allowed, Replay, done, next}
use Rattle.chain.proofs.IntervalsOptimal.{length_after, replay_most}

no_colour : (c : ℕ) → None ≡ Some c → ⊥
no_colour c e = let z : ◌≡◌ {A = ℕ} 0 1 = cc in omega arith

-- a place with a colour is in the list
pub coloured_in : (P : List (Option ℕ)) (k c : ℕ) → get_or P k None ≡ Some c → k < length P
coloured_in [] k c e = absurd (no_colour c e)
coloured_in (p ∷ P) zero c e = omega arith
coloured_in (p ∷ P) (suc k) c e = omega (arith, coloured_in P k c e)

later : (m : ℕ) (X : List Interval) (k : ℕ) → Sorted m X → k < length X → m ≤ (interval X k).finish
later m [] k so h = absurd (not-suc-le-zero h)
later m (v ∷ X) zero so h = so.0
later m (v ∷ X) (suc k) so h = omega (arith, later v.finish X k so.2 (le_of_suc-le-suc h), so.0)

-- ---- from a colouring to what is allowed one after the other

-- each colour that is still to come is free when its interval starts
Free : List ℕ → List Interval → List (Option ℕ) → Type 0
Free latest X P = (k c : ℕ) → get_or P k None ≡ Some c → (c < length latest) × (get_or latest c 0 ≤ (interval X k).start)

Apart : List Interval → List (Option ℕ) → Type 0
Apart X P = (j k c : ℕ) → j ≢ k → get_or P j None ≡ Some c → get_or P k None ≡ Some c
    → ((interval X j).finish ≤ (interval X k).start) ⊎ ((interval X k).finish ≤ (interval X j).start)

allowed : (latest : List ℕ) (v : Interval) (X : List Interval) (p : Option ℕ) (P : List (Option ℕ)) → Free latest (v ∷ X) (p ∷ P)
    → Allowed latest v.start p
unfolding Free
allowed latest v X (Some c) P free = free 0 c refl
allowed latest v X None P free = tt

module _ (m : ℕ) (v : Interval) (X : List Interval) (P : List (Option ℕ)) (so : Sorted m (v ∷ X)) (each : length P ≡ length X) where
  still_free_lem : (latest : List ℕ) (p : Option ℕ) → Free latest (v ∷ X) (p ∷ P) → Apart (v ∷ X) (p ∷ P) → Free (with_pick latest p v.finish) X P
  unfolding Free Apart
  still_free_lem latest None free apart k c e = free (suc k) c e
  still_free_lem latest (Some d) free apart k c e = go (ℕ_discrete c d)
    where
      t : ℕ
      t = v.finish

      old : (c < length latest) × (get_or latest c 0 ≤ (interval X k).start)
      old = free (suc k) c e

      go : Dec (c ≡ d) → (c < length (set latest d t)) × (get_or (set latest d t) c 0 ≤ (interval X k).start)
      go (no n) = (rw length-set old.0, rw (get_or-set_other latest d c t 0 n) old.1)
      go (yes q) =
          let apart-k = apart 0 (suc k) c (λ z. omega arith) (ap Some (sym q)) e in
          let here : k < length P = coloured_in P k c e in
          let after-t : t ≤ (interval X k).finish = later t X k so.2 (omega arith) in
          let ends : t ≤ (interval X k).start = ⊎_elim (λ h. h) (λ h. omega arith) apart-k in
          (rw length-set old.0, rw (q, get_or-set_same latest d t 0 (rw q at old.0)) ends)

replay : (m : ℕ) (X : List Interval) (P : List (Option ℕ)) (latest : List ℕ) → length P ≡ length X → Sorted m X → Free latest X P → Apart X P
    → Replay X P latest
unfolding Apart
replay m [] [] latest each so free apart = done
replay m [] (p ∷ P) latest each so free apart = absurd (omega arith)
replay m (v ∷ X) [] latest each so free apart = absurd (omega arith)
replay m (v ∷ X) (p ∷ P) latest each so free apart =
    let each' : length P ≡ length X = omega arith in
    next (allowed latest v X p P free)
    (replay v.finish X P (with_pick latest p v.finish) each' so.2 (still_free_lem m v X P so each' latest p free apart)
    (λ j k c n. apart (suc j) (suc k) c (λ e. n (suc_inj e))))

colouring_replay : (w : ℕ) (X : List Interval) (P : List (Option ℕ)) → Sorted 0 X → Colouring w X P → Replay X P (replicate w 0)
unfolding Free Apart
colouring_replay w X P so f =
    let free : Free (replicate w 0) X P =
    λ k c e. (rw length-replicate (f.colours k c e), rw (get_or-replicate {A = ℕ} w c 0 0 (f.colours k c e)) (omega arith)) in
    replay 0 X P (replicate w 0) f.each so free f.apart

-- ---- from what is allowed one after the other to a colouring

-- an end never falls
rises : (latest : List ℕ) (s t : ℕ) (p : Option ℕ) (c : ℕ) → Allowed latest s p → s < t → get_or latest c 0 ≤ get_or (with_pick latest p t) c 0
rises latest s t None c ok lt = omega arith
rises latest s t (Some d) c ok lt = go (ℕ_discrete c d)
  where
    go : Dec (c ≡ d) → get_or latest c 0 ≤ get_or (set latest d t) c 0
    go (no n) = omega (arith, get_or-set_other latest d c t 0 n)
    go (yes q) = rw q (omega (arith, get_or-set_same latest d t 0 ok.0, ok.1))

waits : {X : List Interval} {P : List (Option ℕ)} {latest : List ℕ} → Replay X P latest → (m k c : ℕ) → Sorted m X → get_or P k None ≡ Some c
    → (c < length latest) × (get_or latest c 0 ≤ (interval X k).start)
waits done m k c so e = absurd (no_colour c e)
waits (next {v = v} {latest = latest} ok rest) m zero c so e = subst (Allowed latest v.start) e ok
waits (next {v = v} {p = p} {latest = latest} ok rest) m (suc k) c so e =
    let ih = waits rest v.finish k c so.2 e in
    (omega (arith, length_after latest p v.finish, ih.0), omega (arith, rises latest v.start v.finish p c ok so.1, ih.1))

ordered : {X : List Interval} {P : List (Option ℕ)} {latest : List ℕ} → Replay X P latest → (m j k c : ℕ) → Sorted m X → j < k
    → get_or P j None ≡ Some c → get_or P k None ≡ Some c → (interval X j).finish ≤ (interval X k).start
ordered done m j k c so l ej ek = absurd (no_colour c ej)
ordered (next ok rest) m j zero c so l ej ek = absurd (not-suc-le-zero l)
ordered (next {v = v} {p = p} {latest = latest} ok rest) m zero (suc k) c so l ej ek =
    let t = v.finish in
    let free = (waits rest t k c so.2 ek).1 in
    let ok' = subst (Allowed latest v.start) ej ok in
    omega (arith, ap (λ (q : Option ℕ). get_or (with_pick latest q t) c 0) ej, get_or-set_same latest c t 0 ok'.0, free)
ordered (next {v = v} ok rest) m (suc j) (suc k) c so l ej ek = ordered rest v.finish j k c so.2 (le_of_suc-le-suc l) ej ek

sized : {X : List Interval} {P : List (Option ℕ)} {latest : List ℕ} → Replay X P latest → length P ≡ length X
sized done = refl
sized (next ok rest) = ap suc (sized rest)

replay_colouring : (w : ℕ) (X : List Interval) (P : List (Option ℕ)) → Sorted 0 X → Replay X P (replicate w 0) → Colouring w X P
replay_colouring w X P so re =
    record {
      each = sized re;
      colours = λ k c e. rw length-replicate at (waits re 0 k c so e).0;
      apart = λ j k c n ej ek.
          ⊎_elim (λ l. inl (ordered re 0 j k c so l ej ek)) (λ l. inr (ordered re 0 k j c so (omega arith) ek ej)) (cases_lt j k);
    }

-- ---- the theorem

pick_allowed : (latest : List ℕ) (a : ℕ) → Allowed latest a (pick latest a)
pick_allowed latest a = go (pick latest a) (pick_is_chosen latest a)
  where
    go : (p : Option ℕ) → BestPick latest a p → Allowed latest a p
    go (Some c) h = (h.inside, h.fits)
    go None h = tt

picks_replay : (X : List Interval) (latest : List ℕ) → Replay X (picks X latest) latest
picks_replay [] latest = done
picks_replay (v ∷ X) latest = next (pick_allowed latest v.start) (picks_replay X (with_pick latest (pick latest v.start) v.finish))

pub best_fit_is_optimal : BestFitIsOptimal
best_fit_is_optimal w X so =
    record {
      colouring = replay_colouring w X (picks X (replicate w 0)) so (picks_replay X (replicate w 0));
      most = λ P f. replay_most w X P so (colouring_replay w X P so f);
    }

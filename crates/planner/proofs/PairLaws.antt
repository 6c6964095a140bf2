-- The fates of the pairs are a feasible plan, in the first colours, and serve two requests for each pair that gets a colour.
use Prim.Native.Nat.{ℕ, zero, suc, ◌+◌, ◌*◌, ◌<◌}
use mathlib.Core.Path.{◌≡◌, refl, sym, ap, ◌∙◌}
use mathlib.Core.Bool.{true, false}
use mathlib.Core.List.{List, [], ◌∷◌}
use mathlib.Core.Logic.{◌≢◌, ◌⊎◌, inl, inr, ⊎_elim}
use native.Mathlib.Omega.{arith}
use lib.ListN.{length, get_or, take, set, replicate, length-take, length-set, length-replicate}
use lib.Seq.{take-nil, get_or-take, get_or-set_other}
use Rattle.ring.specs.declared.requests.Request.{Request}
use Rattle.ring.specs.declared.ways.Way.{Way}
use Rattle.ring.specs.declared.fates.Fate.{Fate}
use Rattle.ring.specs.declared.fates.Fate.TheVariants.{Blocked, Served}
use Rattle.ring.specs.Requests.{request, ValidRequests}
use Rattle.ring.specs.Ways.{uses}
use Rattle.ring.specs.Plans.{fate, served, Feasible}
use Rattle.ring.specs.Matchings.{Pair, pair, request_numbers, NoTwice, IsMatching}
use Rattle.ring.specs.Routing.{first_way, second_way}
use Rattle.ring.proofs.Cases.{impossible}
use Rattle.ring.proofs.WayLaws.{share_none, share_sym}
use Rattle.ring.proofs.RoutingLaws.{routing_disjoint}
use Rattle.ring.proofs.Counting.{bit}
use Rattle.ring.proofs.PlanLaws.{served?, served_set, served_blocked}
use Rattle.planner.specs.PairPart.{first_fate, second_fate, paired_from, pair_fates, coloured_pairs}
use Rattle.planner.proofs.Lists.{ends_all}

-- A part of a matching is a matching.

ends_take : (w : ℕ) (P : List Pair) → request_numbers (take w P) ≡ take (2 * w) (request_numbers P)
ends_take zero P = refl
ends_take (suc w) [] = sym (take-nil (2 * suc w))
ends_take (suc w) (p ∷ P) =
    let two : 2 * suc w ≡ suc (suc (2 * w)) = omega arith in
    rw (two, ends_take w P)

pub matching_take : (R : List Request) (w : ℕ) (P : List Pair) → IsMatching R P → IsMatching R (take w P)
matching_take R w P matching = record {
  numbers = λ k l. let h : k < w = omega (arith, length-take w P) in
      rw (get_or-take w P k _ h) (matching.numbers k (omega (arith, length-take w P)));
  compatibles = λ k l. let h : k < w = omega (arith, length-take w P) in
      rw (get_or-take w P k _ h) (matching.compatibles k (omega (arith, length-take w P)));
  once = rw ends_take (once_take (2 * w) (request_numbers P) matching.once);
}
  where
    once_take : (k : ℕ) (l : List ℕ) → NoTwice l → NoTwice (take k l)
    once_take k l once i j h g e =
        let far = length-take k l in
        once i j h (omega arith) (sym (get_or-take k l i 0 (omega arith)) ∙ (e ∙ get_or-take k l j 0 (omega arith)))

-- Who is served in a colour.

pub set_cases : {A : Type 0} (l : List A) (i x : ℕ) (a d : A) → ((x ≡ i) × (get_or (set l i a) x d ≡ a)) ⊎ (get_or (set l i a) x d ≡ get_or l x d)
set_cases [] i x a d = inr refl
set_cases (y ∷ l) zero zero a d = inl (refl, refl)
set_cases (y ∷ l) zero (suc x) a d = inr refl
set_cases (y ∷ l) (suc i) zero a d = inr refl
set_cases (y ∷ l) (suc i) (suc x) a d = ⊎_elim (λ t. inl (ap suc t.0, t.1)) inr (set_cases l i x a d)

-- request x has way u and colour d as the first or as the second of a pair, with the colours counted from c
data Holds (n : ℕ) (R : List Request) (c : ℕ) (P : List Pair) (x : ℕ) (u : Way) (d : ℕ) : Type 0 where
  first : (k : ℕ) → k < length P → d ≡ c + k → x ≡ (pair P k).first → Served u d ≡ first_fate n R (pair P k) d → Holds n R c P x u d
  second : (k : ℕ) → k < length P → d ≡ c + k → x ≡ (pair P k).second → Served u d ≡ second_fate n R (pair P k) d → Holds n R c P x u d

paired_length : (n : ℕ) (R : List Request) (c : ℕ) (P : List Pair) (F : List Fate) → length (paired_from n R c P F) ≡ length F
paired_length n R c [] F = refl
paired_length n R c (p ∷ P) F = paired_length n R (c + 1) P _ ∙ (length-set (set F p.first _) p.second _ ∙ length-set F p.first _)

paired_cases : (n : ℕ) (R : List Request) (c : ℕ) (P : List Pair) (F : List Fate) (x : ℕ) (u : Way) (d : ℕ)
    → fate (paired_from n R c P F) x ≡ Served u d → Holds n R c P x u d ⊎ (fate F x ≡ Served u d)
paired_cases n R c [] F x u d e = inr e
paired_cases n R c (p ∷ P) F x u d e =
    ⊎_elim (λ t. inl (later t)) now
    (paired_cases n R (c + 1) P (set (set F p.first (first_fate n R p c)) p.second (second_fate n R p c)) x u d e)
  where
    later : Holds n R (c + 1) P x u d → Holds n R c (p ∷ P) x u d
    later (first k l q s t) = first (suc k) (omega arith) (omega arith) s t
    later (second k l q s t) = second (suc k) (omega arith) (omega arith) s t

    now : fate (set (set F p.first (first_fate n R p c)) p.second (second_fate n R p c)) x ≡ Served u d
        → Holds n R c (p ∷ P) x u d ⊎ (fate F x ≡ Served u d)
    now t =
        ⊎_elim (λ s. let q : c ≡ d = cc in inl (second 0 (omega arith) (omega arith) s.0 (cc)))
        (λ s. ⊎_elim (λ z. let q : c ≡ d = cc in inl (first 0 (omega arith) (omega arith) z.0 (cc))) (λ z. inr (cc))
        (set_cases F p.first x (first_fate n R p c) Blocked))
        (set_cases (set F p.first (first_fate n R p c)) p.second x (second_fate n R p c) Blocked)

blocked_at : (m x : ℕ) → fate (replicate m Blocked) x ≡ Blocked
blocked_at zero x = refl
blocked_at (suc m) zero = refl
blocked_at (suc m) (suc x) = blocked_at m x

pub pair_fates_length : (n w : ℕ) (R : List Request) (P : List Pair) → length (pair_fates n w R P) ≡ length R
unfolding pair_fates
pair_fates_length n w R P = paired_length n R 0 (take w P) _ ∙ length-replicate (length R) Blocked

-- the colours of a plan are below c
abbrev pub ColoursBelow : ℕ → List Fate → Type 0
ColoursBelow c F = (i d : ℕ) (u : Way) → fate F i ≡ Served u d → d < c

module _ (n w : ℕ) (R : List Request) (valid : ValidRequests n R) (P : List Pair) (matching : IsMatching R P) where
  abbrev coloured : List Pair
  coloured = take w P

  holder : (x c : ℕ) (u : Way) → fate (pair_fates n w R P) x ≡ Served u c → Holds n R 0 coloured x u c
  unfolding pair_fates
  holder x c u e = ⊎_elim (λ t. t) (λ t. impossible (cc (blocked_at (length R) x)))
      (paired_cases n R 0 coloured (replicate (length R) Blocked) x u c e)

  -- the two of a pair
  routed : (k : ℕ) → k < length coloured → (link : ℕ) → link < n
      → let r = request R (pair coloured k).first in let s = request R (pair coloured k).second in
      (uses (first_way n r s) r link ≡ true → uses (second_way n r s) s link ≡ false)
      × (uses (second_way n r s) s link ≡ true → uses (first_way n r s) r link ≡ false)
  routed k l link h =
      let part = matching_take R w P matching in
      let numbers = part.numbers k l in
      let r = request R (pair coloured k).first in
      let s = request R (pair coloured k).second in
      let disjoint = routing_disjoint n r s (valid.ordered _ numbers.0) (valid.nodes _ numbers.0)
      (valid.ordered _ numbers.1) (valid.nodes _ numbers.1) (part.compatibles k l) in (
        share_none n (first_way n r s) r (second_way n r s) s disjoint link h,
        share_none n (second_way n r s) s (first_way n r s) r (share_sym n (second_way n r s) s (first_way n r s) r ∙ disjoint) link h,
      )

  pub pair_fates_below : ColoursBelow (coloured_pairs w P) (pair_fates n w R P)
  pair_fates_below i c u e = elim (holder i c u e) [
    | first k l q s t ↦ omega (arith, length-take w P)
    | second k l q s t ↦ omega (arith, length-take w P)
  ]

  pub pair_fates_feasible : Feasible n w R (pair_fates n w R P)
  pair_fates_feasible = record {
    each = pair_fates_length n w R P;
    colours = λ i c u e. omega (arith, pair_fates_below i c u e);
    apart = λ i j c u v d e f link h k. apart i j c u v d (holder i c u e) (holder j c v f) link h k;
  }
    where
      apart : (i j c : ℕ) (u v : Way) → i ≢ j → Holds n R 0 coloured i u c → Holds n R 0 coloured j v c
          → (link : ℕ) → link < n → uses u (request R i) link ≡ true → uses v (request R j) link ≡ false
      apart i j c u v d (first k l q s t) (first k' l' q' s' t') link h g =
          let same : k ≡ k' = omega arith in absurd (d (cc))
      apart i j c u v d (first k l q s t) (second k' l' q' s' t') link h g =
          let same : k ≡ k' = omega arith in
          let disjoint = (routed k l link h).0 (cc) in cc
      apart i j c u v d (second k l q s t) (first k' l' q' s' t') link h g =
          let same : k ≡ k' = omega arith in
          let disjoint = (routed k l link h).1 (cc) in cc
      apart i j c u v d (second k l q s t) (second k' l' q' s' t') link h g =
          let same : k ≡ k' = omega arith in absurd (d (cc))

-- How many are served.

-- one more, where a blocked request gets a colour
pub serve_one : (F : List Fate) (i c : ℕ) (u : Way) → i < length F → fate F i ≡ Blocked → served (set F i (Served u c)) ≡ suc (served F)
serve_one F i c u h e =
    let none : bit (served? (fate F i)) ≡ 0 = cc in
    omega (arith, served_set F i (Served u c) h)

-- pairs of requests that are blocked so far, none of them twice
paired_serves : (n : ℕ) (R : List Request) (c : ℕ) (P : List Pair) (F : List Fate)
    → ((j : ℕ) → j < length (request_numbers P)
    → (get_or (request_numbers P) j 0 < length F) × (fate F (get_or (request_numbers P) j 0) ≡ Blocked))
    → NoTwice (request_numbers P) → served (paired_from n R c P F) ≡ served F + 2 * length P
paired_serves n R c [] F free once = omega arith
paired_serves n R c (p ∷ P) F free once =
    let one = serve_one F p.first c (first_way n (request R p.first) (request R p.second)) (free 0 (omega arith)).0
    (free 0 (omega arith)).1 in
    let other : fate F₁ p.second ≡ Blocked =
    get_or-set_other F p.first p.second _ Blocked (λ q. once 0 1 (omega arith) (omega arith) (sym q)) ∙ (free 1 (omega arith)).1 in
    let two = serve_one F₁ p.second c (second_way n (request R p.first) (request R p.second))
    (omega (arith, length-set F p.first (first_fate n R p c), (free 1 (omega arith)).0)) other in
    omega (arith, paired_serves n R (c + 1) P F₂ still (λ i j h k. once (suc (suc i)) (suc (suc j)) (omega arith) (omega arith)))
  where
    F₁ : List Fate
    F₁ = set F p.first (first_fate n R p c)

    F₂ : List Fate
    F₂ = set F₁ p.second (second_fate n R p c)

    still : (j : ℕ) → j < length (request_numbers P)
        → (get_or (request_numbers P) j 0 < length F₂) × (fate F₂ (get_or (request_numbers P) j 0) ≡ Blocked)
    still j h =
        let x = get_or (request_numbers P) j 0 in
        let before = free (suc (suc j)) (omega arith) in (
          omega (arith, length-set F p.first (first_fate n R p c), length-set F₁ p.second (second_fate n R p c), before.0),
          get_or-set_other F₁ p.second x _ Blocked (λ q. once 1 (suc (suc j)) (omega arith) (omega arith) (sym q))
              ∙ (get_or-set_other F p.first x _ Blocked (λ q. once 0 (suc (suc j)) (omega arith) (omega arith) (sym q)) ∙ before.1),
        )

pub pair_fates_serve : (n w : ℕ) (R : List Request) (P : List Pair) → IsMatching R P → served (pair_fates n w R P) ≡ 2 * coloured_pairs w P
unfolding pair_fates
pair_fates_serve n w R P matching =
    let part = matching_take R w P matching in
    omega (
      arith,
      length-take w P,
      served_blocked (length R),
      paired_serves n R 0 (take w P) (replicate (length R) Blocked)
          (ends_all (λ x. (x < length (replicate (length R) Blocked)) × (fate (replicate (length R) Blocked) x ≡ Blocked)) (take w P)
          (λ k l. let inside = part.numbers k l in (
            (omega (arith, length-replicate (length R) Blocked), blocked_at (length R) _),
            (omega (arith, length-replicate (length R) Blocked), blocked_at (length R) _),
          )))
          part.once,
    )

-- The pair part: with the spare colours filled it is feasible, and serves as many requests as the pair count says.
use Prim.Native.Nat.{ℕ, zero, suc, ◌+◌, ◌-◌, ◌≤◌, ◌<◌, min}
use mathlib.Core.Path.{◌≡◌, refl, ◌∙◌}
use mathlib.Core.Bool.{true, false}
use mathlib.Core.List.{List, [], ◌∷◌}
use mathlib.Core.Logic.{◌≢◌, ⊎_elim}
use native.Mathlib.Omega.{arith}
use lib.ListN.{length, set, length-set}
use lib.Seq.{set_out}
use Rattle.ring.specs.declared.requests.Request.{Request}
use Rattle.ring.specs.declared.ways.Way.{Way}
use Rattle.ring.specs.declared.ways.Way.TheVariants.{Plain}
use Rattle.ring.specs.declared.fates.Fate.{Fate}
use Rattle.ring.specs.declared.fates.Fate.TheVariants.{Blocked, Served}
use Rattle.ring.specs.Requests.{request, ValidRequests}
use Rattle.ring.specs.Ways.{uses}
use Rattle.ring.specs.Plans.{fate, served, Feasible}
use Rattle.ring.specs.Matchings.{Pair, IsMatching}
use Rattle.ring.proofs.PlanLaws.{served_le}
use Rattle.planner.specs.PairPart.{pair_fates, coloured_pairs, lowest_blocked, filled_from, pair_part, pair_count}
use Rattle.planner.proofs.PairLaws.{set_cases, serve_one, pair_fates_length, ColoursBelow, pair_fates_below, pair_fates_feasible}
use Rattle.planner.proofs.PairLaws.{pair_fates_serve}

-- Who is served in a colour.

-- once the lowest blocked request has colour c: a request has a lower colour, as before, or it is that request and has colour c
data Given (F : List Fate) (c x : ℕ) (u : Way) (d : ℕ) : Type 0 where
  before : fate F x ≡ Served u d → d < c → Given F c x u d
  now : x ≡ lowest_blocked F → d ≡ c → Given F c x u d

module _ (n w : ℕ) (R : List Request) (F : List Fate) (feasible : Feasible n w R F) (c : ℕ) (below : ColoursBelow c F) (fits : c < w) where
  abbrev given : List Fate
  given = set F (lowest_blocked F) (Served Plain c)

  given_cases : (x d : ℕ) (u : Way) → fate given x ≡ Served u d → Given F c x u d
  given_cases x d u e =
      ⊎_elim (λ s. now s.0 (cc)) (λ s. let same : fate F x ≡ Served u d = cc in before same (below x d u same))
      (set_cases F (lowest_blocked F) x (Served Plain c) Blocked)

  given_below : ColoursBelow (c + 1) given
  given_below x d u e = elim (given_cases x d u e) [
    | before f h ↦ omega arith
    | now s q ↦ omega arith
  ]

  -- nobody else has colour c
  given_feasible : Feasible n w R given
  given_feasible = record {
    each = length-set F (lowest_blocked F) (Served Plain c) ∙ feasible.each;
    colours = λ x d u e. omega (arith, given_below x d u e);
    apart = λ i j d u v far e f. apart i j d u v far (given_cases i d u e) (given_cases j d v f);
  }
    where
      apart : (i j d : ℕ) (u v : Way) → i ≢ j → Given F c i u d → Given F c j v d
          → (link : ℕ) → link < n → uses u (request R i) link ≡ true → uses v (request R j) link ≡ false
      apart i j d u v far (before e h) (before f k) link l s = feasible.apart i j d u v far e f link l s
      apart i j d u v far (before e h) (now t q) link l s = absurd (omega arith)
      apart i j d u v far (now t q) (before f k) link l s = absurd (omega arith)
      apart i j d u v far (now t q) (now t' q') link l s = absurd (far (cc))

filled_feasible : (n w : ℕ) (R : List Request) (spare c : ℕ) (F : List Fate) → Feasible n w R F → ColoursBelow c F → c + spare ≤ w
    → Feasible n w R (filled_from spare c F)
filled_feasible n w R zero c F feasible below h = feasible
filled_feasible n w R (suc spare) c F feasible below h =
    let fits : c < w = omega arith in
    filled_feasible n w R spare (c + 1) (set F (lowest_blocked F) (Served Plain c)) (given_feasible n w R F feasible c below fits)
    (given_below n w R F feasible c below fits) (omega arith)

pub pair_part_feasible : (n w : ℕ) (R : List Request) → ValidRequests n R → (P : List Pair) → IsMatching R P
    → Feasible n w R (pair_part n w R P)
unfolding pair_part
pair_part_feasible n w R valid P matching =
    filled_feasible n w R (w - coloured_pairs w P) (coloured_pairs w P) (pair_fates n w R P) (pair_fates_feasible n w R valid P matching)
    (pair_fates_below n w R valid P matching) (omega arith)

-- How many are served.

-- the lowest blocked request is one that is blocked, or all are served
data Lowest (F : List Fate) : Type 0 where
  found : lowest_blocked F < length F → fate F (lowest_blocked F) ≡ Blocked → Lowest F
  none : length F ≤ lowest_blocked F → served F ≡ length F → Lowest F

lowest : (F : List Fate) → Lowest F
unfolding served
lowest [] = none (omega arith) refl
lowest (Blocked ∷ F) = found (omega arith) refl
lowest (Served u c ∷ F) = elim (lowest F) [
  | found h e ↦ found (omega arith) e
  | none h e ↦ none (omega arith) (omega arith)
]

-- one for each spare colour, as long as requests are blocked
filled_serves : (spare c : ℕ) (F : List Fate) → served (filled_from spare c F) ≡ served F + min spare (length F - served F)
filled_serves zero c F = omega arith
filled_serves (suc spare) c F =
    let G = set F (lowest_blocked F) (Served Plain c) in
    elim (lowest F) [
      | found h e ↦ omega (
        arith,
        serve_one F (lowest_blocked F) c Plain h e,
        filled_serves spare (c + 1) G,
        served_le G,
        length-set F (lowest_blocked F) (Served Plain c),
      )
      | none h e ↦ rw (set_out F (lowest_blocked F) (Served Plain c) h) (omega (arith, filled_serves spare (c + 1) F))
    ]

pub pair_part_serves : (n w : ℕ) (R : List Request) (P : List Pair) → IsMatching R P
    → served (pair_part n w R P) ≡ pair_count (length R) w (coloured_pairs w P)
unfolding pair_part
pair_part_serves n w R P matching = omega (
  arith,
  filled_serves (w - coloured_pairs w P) (coloured_pairs w P) (pair_fates n w R P),
  pair_fates_serve n w R P matching,
  pair_fates_length n w R P,
)

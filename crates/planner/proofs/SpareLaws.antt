-- The walk over a table gives the spare colours to the blocked requests.
use Prim.Native.Nat.{ℕ, zero, suc, ◌+◌, ◌-◌, ◌≤◌, ◌<◌}
use mathlib.Core.Path.{◌≡◌, refl}
use mathlib.Core.Bool.{Bool, true, false, cond}
use mathlib.Core.List.{List, [], ◌∷◌, ◌++◌, map, append-nil}
use native.Mathlib.Omega.{arith}
use native.Mathlib.Numerals.{add-one}
use lib.ListN.{length, get_or, take, drop, set, drop_of_length-le}
use lib.Dec.{eqb}
use lib.Seq.{append_snoc, take-suc-set, drop-set-lt, take_all}
use borrow.Author.Tests.{lt-ltb, le-ltb, eq-eqb, ne_eqb}
use Rattle.ring.specs.declared.requests.Request.{Request}
use Rattle.ring.specs.declared.ways.Way.{Way}
use Rattle.ring.specs.declared.ways.Way.TheVariants.{Plain}
use Rattle.ring.specs.declared.fates.Fate.{Fate}
use Rattle.ring.specs.declared.fates.Fate.TheVariants.{Blocked, Served}
use Rattle.ring.specs.Fates.{fate_number}
use Rattle.ring.specs.Plans.{fates_of}
use Rattle.ring.specs.Matchings.{Pair}
use Rattle.ring.proofs.Cases.{yes, no, is}
use Rattle.ring.proofs.FateLaws.{served_number_lem, fates_of_numbers, numbers_of_fates}
use Rattle.ring.proofs.ListLaws.{drop_next}
use Rattle.planner.specs.PairPart.{pair_fates, coloured_pairs, lowest_blocked, filled_from, pair_part}
use Rattle.planner.specs.Internal.Filling.{filled_table, takes_spare, number_after, spare_after, given_out}

-- a request is served already; or there is no spare colour; or it takes one
pub served_already : (w spare x : ℕ) → (x ≡ 0 → ⊥) → (spare ≡ spare_after spare x) × (x ≡ number_after w spare x)
served_already w spare x h =
    let e = ne_eqb x 0 h in
    (cc, cc)

pub none_spare : (w spare x : ℕ) → spare ≡ 0 → (spare ≡ spare_after spare x) × (x ≡ number_after w spare x)
none_spare w spare x k = elim (is (eqb x 0)) [
  | yes e ↦
      let f = le-ltb 0 spare (omega arith) in
      (cc, cc)
  | no e ↦ (cc, cc)
]

pub spare_taken : (w spare x y : ℕ) → x ≡ 0 → 0 < spare → y ≡ fate_number (Served Plain (w - spare))
    → (spare - 1 ≡ spare_after spare x) × (y ≡ number_after w spare x)
spare_taken w spare x y h k g =
    let e = eq-eqb x 0 h in
    let f = lt-ltb 0 spare k in
    (cc, cc)

-- The walk: the entries before i are done.

pub given_turn : (w spare i : ℕ) (table : List ℕ) (spare' y : ℕ) (whole : List ℕ) → i < length table
    → spare' ≡ spare_after spare (get_or table i 0) → y ≡ number_after w spare (get_or table i 0)
    → take i table ++ given_out w spare (drop i table) ≡ whole
    → (spare' ≤ spare) × (take (i + 1) (set table i y) ++ given_out w spare' (drop (i + 1) (set table i y)) ≡ whole)
given_turn w spare i table spare' y whole h e f g =
    let x = get_or table i 0 in
    let z = number_after w spare x in
    let front : take (i + 1) (set table i z) ≡ take i table ++ (z ∷ []) = rw add-one (take-suc-set table i z h) in
    let back = drop-set-lt (i + 1) table i z (omega arith) in
    (fewer (takes_spare spare x) e, rw (f, e, front, back, append_snoc) (rw (drop_next table i 0 h) at g))
  where
    fewer : (b : Bool) → spare' ≡ cond b (spare - 1) spare → spare' ≤ spare
    fewer true q = omega arith
    fewer false q = omega arith

pub given_ended : (w spare i : ℕ) (table : List ℕ) → length table ≤ i → take i table ++ given_out w spare (drop i table) ≡ table
given_ended w spare i table h = rw (drop_of_length-le table h, take_all i table h) (append-nil table)

-- The walk gives out the colours as the rule does.

filled_none : (spare c : ℕ) → filled_from spare c [] ≡ []
filled_none zero c = refl
filled_none (suc spare) c = filled_none spare (c + 1)

filled_served : (spare c : ℕ) (u : Way) (d : ℕ) (F : List Fate) → filled_from spare c (Served u d ∷ F) ≡ Served u d ∷ filled_from spare c F
filled_served zero c u d F = refl
filled_served (suc spare) c u d F = filled_served spare (c + 1) u d (set F (lowest_blocked F) (Served Plain c))

given_filled : (w spare : ℕ) (F : List Fate) → spare ≤ w
    → given_out w spare (map fate_number F) ≡ map fate_number (filled_from spare (w - spare) F)
unfolding fate_number
given_filled w spare [] h = rw (filled_none spare (w - spare))
given_filled w spare (Served u d ∷ F) h =
    let far = ne_eqb (fate_number (Served u d)) 0 (λ z. omega (arith, served_number_lem u d)) in
    rw (far, filled_served spare (w - spare) u d F, given_filled w spare F h)
given_filled w zero (Blocked ∷ F) h = rw (given_filled w 0 F h)
given_filled w (suc spare) (Blocked ∷ F) h =
    let colour : w - suc spare + 1 ≡ w - spare = omega arith in
    let one : suc spare - 1 ≡ spare = omega arith in
    rw (
      lt-ltb 0 (suc spare) (omega arith),
      filled_served spare (w - suc spare + 1) Plain (w - suc spare) F,
      colour,
      one,
      given_filled w spare F (omega arith),
    )

pub given_all : (w spare : ℕ) (table : List ℕ) → spare ≤ w → given_out w spare table ≡ filled_table w spare table
given_all w spare table h = rw numbers_of_fates at (given_filled w spare (fates_of table) h)

-- the pair part, from the fates of the pairs
pub pair_part_filled : (n w : ℕ) (R : List Request) (P : List Pair) (spare : ℕ) → spare ≡ w - coloured_pairs w P
    → filled_table w spare (map fate_number (pair_fates n w R P)) ≡ map fate_number (pair_part n w R P)
unfolding pair_part
pair_part_filled n w R P spare e =
    let first : w - spare ≡ coloured_pairs w P = omega arith in
    rw (fates_of_numbers (pair_fates n w R P), first, e)

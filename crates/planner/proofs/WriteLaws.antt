-- The walk over the mates writes the fates of the pairs.
use Prim.Native.Nat.{ℕ, zero, suc, ◌+◌, ◌-◌, ◌/◌, ◌≤◌, ◌<◌}
use mathlib.Core.Path.{◌≡◌, refl, sym, ap, ◌∙◌}
use mathlib.Core.Bool.{Bool, true, false}
use mathlib.Core.List.{List, [], ◌∷◌, ◌++◌, map}
use native.Mathlib.Omega.{arith}
use lib.Dec.{ltb}
use lib.ListN.{length, get_or, take, drop, set, replicate, length-append, length-take, length-drop, length-set, length-replicate}
use lib.ListN.{drop_of_length-le}
use lib.Seq.{take-nil}
use Rattle.ring.specs.declared.requests.Request.{Request}
use Rattle.ring.specs.declared.ways.Way.{Way}
use Rattle.ring.specs.declared.ways.Way.TheVariants.{Plain}
use Rattle.ring.specs.declared.fates.Fate.{Fate}
use Rattle.ring.specs.declared.fates.Fate.TheVariants.{Blocked, Served}
use Rattle.ring.specs.Requests.{requests_of, request, ValidRequests}
use Rattle.ring.specs.Fates.{fate_number}
use Rattle.ring.specs.Matchings.{Pair, pair, IsMatching}
use Rattle.ring.specs.Routing.{seam_if, first_way, second_way}
use borrow.Author.Tests.{lt-ltb, le-ltb}
use Rattle.ring.proofs.Cases.{less, not_less, compare, impossible}
use Rattle.ring.proofs.ListLaws.{drop_next}
use Rattle.ring.proofs.WayLaws.{sharing_means}
use Rattle.matching.specs.Maximum.{lower_pair, pairs_from, pairs_of}
use Rattle.planner.specs.PairPart.{first_fate, second_fate, paired_from, pair_fates}
use Rattle.planner.specs.Internal.Writing.{other_way, with_pair, table_after, colour_after, written_from, MateFits, Within, Writable}
use Rattle.planner.specs.Internal.Writing.{pair_table}
use Rattle.planner.proofs.PairLaws.{matching_take}

-- the two entries of a pair, as they are computed
pub pair_written : (n : ℕ) (R : List Request) (i j c : ℕ) (table : List ℕ) (r s : Request) (first second : Way) (x y : ℕ)
    → r ≡ request R i → s ≡ request R j → first ≡ first_way n r s → second ≡ other_way first r s
    → x ≡ fate_number (Served first c) → y ≡ fate_number (Served second c) → set (set table i x) j y ≡ with_pair n R i j c table
pair_written n R i j c table r s first second x y e f g h k l = cc

-- request i with its mate j: i is not the lower one; there is no colour left; or both take the colour
pub not_lower : (n w : ℕ) (R : List Request) (i j c : ℕ) (table : List ℕ) → j ≤ i
    → (c ≡ colour_after w i j c) × (table ≡ table_after n w R i j c table)
not_lower n w R i j c table h =
    let e = le-ltb i j h in
    (cc, cc)

pub no_colour : (n w : ℕ) (R : List Request) (i j c : ℕ) (table : List ℕ) → i < j → w ≤ c
    → (c ≡ colour_after w i j c) × (table ≡ table_after n w R i j c table)
no_colour n w R i j c table h k =
    let e = lt-ltb i j h in
    let f = le-ltb c w k in
    (cc, cc)

pub both_take : (n w : ℕ) (R : List Request) (i j c : ℕ) (table table' : List ℕ) → i < j → c < w → table' ≡ with_pair n R i j c table
    → (c + 1 ≡ colour_after w i j c) × (table' ≡ table_after n w R i j c table)
both_take n w R i j c table table' h k g =
    let e = lt-ltb i j h in
    let f = lt-ltb c w k in
    (cc, cc)

-- a turn of the walk, and its end
pub written_turn : (n w : ℕ) (R : List Request) (i c : ℕ) (mates table : List ℕ) → i < length mates
    → written_from n w R i c (drop i mates) table
    ≡ written_from n w R (i + 1) (colour_after w i (get_or mates i 0) c) (drop (i + 1) mates)
    (table_after n w R i (get_or mates i 0) c table)
written_turn n w R i c mates table h = rw (drop_next mates i 0 h) refl

pub written_ended : (n w : ℕ) (R : List Request) (i c : ℕ) (mates table : List ℕ) → length mates ≤ i
    → written_from n w R i c (drop i mates) table ≡ table
written_ended n w R i c mates table h = rw (drop_of_length-le mates h)

-- the table after the pairs have got the colours from c on
abbrev table_from : ℕ → List Request → ℕ → List Pair → List ℕ → List ℕ
table_from n R c [] table = table
table_from n R c (p ∷ P) table = table_from n R (c + 1) P (with_pair n R p.first p.second c table)

-- the walk takes the pairs, as long as there are colours
written_pairs : (n w : ℕ) (R : List Request) (i c : ℕ) (mates table : List ℕ)
    → written_from n w R i c mates table ≡ table_from n R c (take (w - c) (pairs_from i mates)) table
written_pairs n w R i c [] table = rw take-nil
written_pairs n w R i c (j ∷ mates) table = elim (compare i j) [
  | less h e ↦ elim (compare c w) [
    | less k f ↦
        let more : w - c ≡ suc (w - (c + 1)) = omega arith in
        rw (e, f, more) (written_pairs n w R (i + 1) (c + 1) mates (with_pair n R i j c table))
    | not_less k f ↦
        let none : w - c ≡ 0 = omega arith in
        rw (e, f, none) (rw none at (written_pairs n w R (i + 1) c mates table))
  ]
  | not_less h e ↦ rw e (written_pairs n w R (i + 1) c mates table)
]

-- an entry of fate numbers is set where the fate is
set_number : (F : List Fate) (rest : List ℕ) (i : ℕ) (f : Fate) → i < length F
    → set (map fate_number F ++ rest) i (fate_number f) ≡ map fate_number (set F i f) ++ rest
set_number [] rest i f h = absurd (omega arith)
set_number (g ∷ F) rest zero f h = refl
set_number (g ∷ F) rest (suc i) f h = ap (λ (l : List ℕ). fate_number g ∷ l) (set_number F rest i f (omega arith))

blocked_numbers : (m : ℕ) → map fate_number (replicate m Blocked) ≡ replicate m 0
unfolding fate_number
blocked_numbers zero = refl
blocked_numbers (suc m) = ap (λ (l : List ℕ). 0 ∷ l) (blocked_numbers m)

module _ (n : ℕ) (R : List Request) (valid : ValidRequests n R) where
  other_way_lem : (i j : ℕ) → i < length R → j < length R
      → other_way (first_way n (request R i) (request R j)) (request R i) (request R j) ≡ second_way n (request R i) (request R j)
  unfolding second_way
  other_way_lem i j h k = ap seam_if (sharing_means n (first_way n (request R i) (request R j)) (request R i) Plain (request R j)
      (valid.ordered i h) (valid.nodes i h) (valid.ordered j k) (valid.nodes j k))

  -- the table has the numbers of the fates
  table_numbers : (c : ℕ) (P : List Pair) (F : List Fate) (rest : List ℕ) → length F ≡ length R
      → ((k : ℕ) → k < length P → ((pair P k).first < length R) × ((pair P k).second < length R))
      → table_from n R c P (map fate_number F ++ rest) ≡ map fate_number (paired_from n R c P F) ++ rest
  table_numbers c [] F rest e inside = refl
  table_numbers c (p ∷ P) F rest e inside =
      let i = p.first in
      let j = p.second in
      let here = inside 0 (omega arith) in
      let F₁ = set F i (first_fate n R p c) in
      let first = set_number F rest i (first_fate n R p c) (omega arith) in
      let second = set_number F₁ rest j (second_fate n R p c) (omega (arith, length-set F i (first_fate n R p c))) in
      rw (other_way_lem i j here.0 here.1, first, second)
      (table_numbers (c + 1) P (set F₁ j (second_fate n R p c)) rest (length-set F₁ j _ ∙ (length-set F i _ ∙ e))
      (λ k l. inside (suc k) (omega arith)))

  -- from a table whose first m entries are 0, the walk over the mates writes the fates of the pairs
  pub written_pair_fates : (w : ℕ) (mates rest : List ℕ) → IsMatching R (pairs_of (length R) mates)
      → written_from n w R 0 0 (take (length R) mates) (replicate (length R) 0 ++ rest)
      ≡ map fate_number (pair_fates n w R (pairs_of (length R) mates)) ++ rest
  unfolding pair_fates pairs_of
  written_pair_fates w mates rest matching =
      let P = pairs_from 0 (take (length R) mates) in
      let all : w - 0 ≡ w = omega arith in
      (rw all at (written_pairs n w R 0 0 (take (length R) mates) (replicate (length R) 0 ++ rest)))
      ∙ (ap (λ (l : List ℕ). table_from n R 0 (take w P) (l ++ rest)) (sym (blocked_numbers (length R)))
      ∙ table_numbers 0 (take w P) (replicate (length R) Blocked) rest (length-replicate (length R) Blocked)
      (matching_take R w P matching).numbers)

-- what holds of the second number of each pair holds of the mate of each request that is the lower one
pairs_each : (Q : ℕ → Type 0) (i : ℕ) (mates : List ℕ) → ((k : ℕ) → k < length (pairs_from i mates) → Q (pair (pairs_from i mates) k).second)
    → (k : ℕ) → k < length mates → i + k < get_or mates k 0 → Q (get_or mates k 0)
pairs_each Q i [] h k l g = absurd (omega arith)
pairs_each Q i (j ∷ mates) h zero l g = here (ltb i j) (lt-ltb i j (omega arith)) h
  where
    here : (b : Bool) → b ≡ true
        → ((k : ℕ) → k < length (lower_pair b i j ++ pairs_from (i + 1) mates)
        → Q (pair (lower_pair b i j ++ pairs_from (i + 1) mates) k).second) → Q j
    here true e q = q 0 (omega arith)
    here false e q = impossible (sym e)
pairs_each Q i (j ∷ mates) h (suc k) l g = pairs_each Q (i + 1) mates (behind (ltb i j) h) k (omega arith) (omega arith)
  where
    behind : (b : Bool)
        → ((k : ℕ) → k < length (lower_pair b i j ++ pairs_from (i + 1) mates)
        → Q (pair (lower_pair b i j ++ pairs_from (i + 1) mates) k).second)
        → (k : ℕ) → k < length (pairs_from (i + 1) mates) → Q (pair (pairs_from (i + 1) mates) k).second
    behind true q k s = q (suc k) (omega arith)
    behind false q k s = q k s

-- so a mate above its request is a request
pub mate_inside : (R : List Request) (mates : List ℕ) → IsMatching R (pairs_of (length R) mates)
    → (i : ℕ) → i < length (take (length R) mates) → i < get_or (take (length R) mates) i 0 → get_or (take (length R) mates) i 0 < length R
unfolding pairs_of
mate_inside R mates matching i h g =
    pairs_each (λ j. j < length R) 0 (take (length R) mates) (λ k l. (matching.numbers k l).1) i h (omega arith)

-- For the function: what a turn needs, what it leaves, and the end.

module _ (n w : ℕ) (ends mates start : List ℕ) (within : Within n w ends) (writable : Writable (requests_of ends) mates start) where
  half : length ends / 2 ≡ length (requests_of ends)
  half = omega (arith, within.even)

  pub mate_fits : (i j : ℕ) (table : List ℕ) → i < length (take (length ends / 2) mates) → length table ≡ length start
      → j ≡ get_or (take (length ends / 2) mates) i 0 → MateFits (length (requests_of ends)) i j table
  mate_fits i j table h e f =
      let inside : i < length (take (length (requests_of ends)) mates) = rw (← half) h in
      let mate : j ≡ get_or (take (length (requests_of ends)) mates) i 0 = rw (← half) f in
      record {
        first = omega (arith, length-take (length (requests_of ends)) mates);
        second = λ g. omega (arith, mate_inside (requests_of ends) mates writable.matching i inside (omega arith));
        room = omega (arith, writable.room);
      }

  pub cleared_length : (cleared : List ℕ) → cleared ≡ replicate (length ends / 2) 0 ++ drop (length ends / 2) start
      → length cleared ≡ length start
  cleared_length cleared e = omega (
    arith,
    ap length e,
    half,
    writable.room,
    length-append (replicate (length ends / 2) 0) (drop (length ends / 2) start),
    length-replicate {A = ℕ} (length ends / 2) 0,
    length-drop (length ends / 2) start,
  )

  pub cleared_written : (cleared : List ℕ) → cleared ≡ replicate (length ends / 2) 0 ++ drop (length ends / 2) start
      → written_from n w (requests_of ends) 0 0 (take (length ends / 2) mates) cleared ≡ pair_table n w (requests_of ends) mates start
  cleared_written cleared e =
      rw (e, half) (written_pair_fates n (requests_of ends) within.valid w mates (drop (length (requests_of ends)) start)
      writable.matching)

pub written_again : (n w : ℕ) (R : List Request) (i c : ℕ) (mates table : List ℕ) (j c' : ℕ) (table' whole : List ℕ)
    → i < length mates → j ≡ get_or mates i 0 → c' ≡ colour_after w i j c → table' ≡ table_after n w R i j c table
    → written_from n w R i c (drop i mates) table ≡ whole → written_from n w R (i + 1) c' (drop (i + 1) mates) table' ≡ whole
written_again n w R i c mates table j c' table' whole h e f g k = rw (f, g, e) (sym (written_turn n w R i c mates table h) ∙ k)

-- From mates to pairs: the pairs of the mates are a matching, with two requests for each pair, and a maximum one where the searches have
-- ended.
use Prim.Native.Nat.{ℕ, zero, suc, ◌+◌, ◌*◌, ◌<◌, ◌≤◌}
use mathlib.Core.Path.{◌≡◌, refl, sym, ◌∙◌}
use mathlib.Core.Bool.{Bool, true, false, not, ◌&&◌, ◌||◌, and-true}
use mathlib.Core.List.{List, [], ◌∷◌, ◌++◌}
use native.Mathlib.Omega.{arith}
use lib.Dec.{eqb, ltb, leb}
use lib.ListN.{length, get_or, take}
use lib.Seq.{get_or-take, length-take-le}
use borrow.Author.Tests.{eqb-false, eq-eqb, ne_eqb, ltb-true, le-leb, lt-leb}
use Rattle.ring.specs.declared.requests.Request.{Request}
use Rattle.ring.specs.Chords.{compatible}
use Rattle.ring.specs.Matchings.{Pair, pair, request_numbers, NoTwice, IsMatching, IsMaximum}
use Rattle.ring.specs.Requests.{request}
use Rattle.ring.proofs.Cases.{yes, no, is, Apart, same, different, eqb_refl, test, less, not_less, compare, apart, impossible}
use Rattle.ring.proofs.Counting.{bit, count, sum_ext, has, has_none}
use Rattle.blossom.specs.Internal.Certificate.{BetweenSearches}
use Rattle.blossom.specs.Internal.Labels.{Label}
use Rattle.blossom.specs.Internal.Rows.{Symmetric, Mates}
use Rattle.blossom.proofs.Maximum.{Disjoint, none, more, count_ends, longest}
use Rattle.matching.specs.Maximum.{lower_pair, pairs_from, pairs_of}
use Rattle.matching.specs.Internal.Adjacency.{adjacent}
use Rattle.matching.proofs.AdjacencyLaws.{adjacent_are_compatible, adjacent_if, mates_inside}

-- what stands in a list is one of its entries
has_not : (l : List ℕ) (z : ℕ) → has l z ≡ false → (i : ℕ) → i < length l → z ≡ get_or l i 0 → ⊥
has_not [] z e i h f = omega arith
has_not (x ∷ l) z e zero h f = impossible (cc (eq-eqb z x f))
has_not (x ∷ l) z e (suc i) h f = elim (is (eqb z x)) [ yes g ↦ impossible (cc) | no g ↦ has_not l z (cc) i (omega arith) f ]

-- a matching in ring's words, and as the theory has it
module _ (R : List Request) where
  pub disjoint : (Q : List Pair) → IsMatching R Q → Disjoint (adjacent R) (length R) Q
  disjoint [] G = none
  disjoint (p ∷ Q) G =
      let ends = G.numbers 0 (omega arith) in
      let n = ne_eqb p.first p.second (G.once 0 1 (omega arith) (omega arith)) in
      more ends.0 ends.1 n (adjacent_if R p.first p.second n ends.0 ends.1 (G.compatibles 0 (omega arith)))
      (has_none (request_numbers Q) p.first (λ i h. G.once 0 (suc (suc i)) (omega arith) (omega arith)))
      (has_none (request_numbers Q) p.second (λ i h. G.once 1 (suc (suc i)) (omega arith) (omega arith)))
      (disjoint Q (record {
        numbers = λ k h. G.numbers (suc k) (omega arith);
        compatibles = λ k h. G.compatibles (suc k) (omega arith);
        once = λ i j h k. G.once (suc (suc i)) (suc (suc j)) (omega arith) (omega arith);
      }))

  numbers_of : {Q : List Pair} → Disjoint (adjacent R) (length R) Q → (k : ℕ) → k < length Q
      → ((pair Q k).first < length R) × ((pair Q k).second < length R)
  numbers_of none k h = absurd (omega arith)
  numbers_of (more la lb ab e ha hb d) zero h = (la, lb)
  numbers_of (more la lb ab e ha hb d) (suc k) h = numbers_of d k (omega arith)

  compatibles_of : {Q : List Pair} → Disjoint (adjacent R) (length R) Q → (k : ℕ) → k < length Q
      → compatible (request R (pair Q k).first) (request R (pair Q k).second) ≡ true
  compatibles_of none k h = absurd (omega arith)
  compatibles_of (more {p} {P} la lb ab e ha hb d) zero h = adjacent_are_compatible R p.first p.second e
  compatibles_of (more la lb ab e ha hb d) (suc k) h = compatibles_of d k (omega arith)

  once_of : {Q : List Pair} → Disjoint (adjacent R) (length R) Q → NoTwice (request_numbers Q)
  once_of none i j h k e = omega arith
  once_of (more {p} {P} la lb ab e ha hb d) zero zero h k f = omega arith
  once_of (more {p} {P} la lb ab e ha hb d) zero (suc zero) h k f = eqb-false p.first p.second ab f
  once_of (more {p} {P} la lb ab e ha hb d) zero (suc (suc j)) h k f = has_not (request_numbers P) p.first ha j (omega arith) f
  once_of (more {p} {P} la lb ab e ha hb d) (suc zero) zero h k f = omega arith
  once_of (more {p} {P} la lb ab e ha hb d) (suc zero) (suc zero) h k f = omega arith
  once_of (more {p} {P} la lb ab e ha hb d) (suc zero) (suc (suc j)) h k f = has_not (request_numbers P) p.second hb j (omega arith) f
  once_of (more {p} {P} la lb ab e ha hb d) (suc (suc i)) zero h k f = omega arith
  once_of (more {p} {P} la lb ab e ha hb d) (suc (suc i)) (suc zero) h k f = omega arith
  once_of (more {p} {P} la lb ab e ha hb d) (suc (suc i)) (suc (suc j)) h k f = once_of d i j (omega arith) (omega arith) f

  pub is_matching : {Q : List Pair} → Disjoint (adjacent R) (length R) Q → IsMatching R Q
  is_matching d = record { numbers = numbers_of d; compatibles = compatibles_of d; once = once_of d }

has_lower : (b : Bool) (i j : ℕ) (P : List Pair) (z : ℕ)
    → has (request_numbers (lower_pair b i j ++ P)) z ≡ (b && (eqb z i || eqb z j) || has (request_numbers P) z)
has_lower true i j P z = elim (is (eqb z i)) [ yes e ↦ cc | no e ↦ elim (is (eqb z j)) [ yes f ↦ cc | no f ↦ cc ] ]
has_lower false i j P z = refl

leb_next : (i x : ℕ) → Apart x i → leb (i + 1) x ≡ leb i x
leb_next i x d = elim (compare i x) [
  | less h e ↦ cc (le-leb (i + 1) x (omega arith), le-leb i x (omega arith))
  | not_less h e ↦
      let n : x < i = omega (arith, eqb-false x i d.left) in
      cc (lt-leb (i + 1) x (omega arith), lt-leb i x (omega arith))
]

-- the entries of the list l are the mates of the vertices from i to m - 1
record Reads (M : ℕ → ℕ) (m i : ℕ) (l : List ℕ) : Type 0 where
  entries : (k : ℕ) → k < length l → get_or l k 0 ≡ M (i + k)
  reach : i + length l ≡ m

module _ (adj : ℕ → ℕ → Bool) (m : ℕ) (M : ℕ → ℕ) (w : Mates adj M) (inside : (z : ℕ) → z < m → M z < m) where
  head_is : (i j : ℕ) (l : List ℕ) → Reads M m i (j ∷ l) → j ≡ M i
  head_is i j l r = let e : i + 0 ≡ i = omega arith in rw e at (r.entries 0 (omega arith))

  tail_is : (i j : ℕ) (l : List ℕ) → Reads M m i (j ∷ l) → Reads M m (i + 1) l
  tail_is i j l r = record {
    entries = λ k h. let e : i + suc k ≡ i + 1 + k = omega arith in rw e at (r.entries (suc k) (omega arith));
    reach = omega (arith, r.reach);
  }

  -- z and its mate are different, and both from i on
  abbrev covered_from : ℕ → ℕ → Bool
  covered_from i z = not (eqb (M z) z) && (leb i z && leb i (M z))

  not_covered : (i z : ℕ) → (leb i z && leb i (M z)) ≡ false → covered_from i z ≡ false
  not_covered i z e = elim (is (eqb (M z) z)) [ yes f ↦ cc | no f ↦ cc ]

  has_pairs : (l : List ℕ) (i : ℕ) → Reads M m i l → (z : ℕ) → z < m → has (request_numbers (pairs_from i l)) z ≡ covered_from i z
  has_pairs [] i r z h = sym (not_covered i z (cc (lt-leb i z (omega (arith, r.reach)))))
  has_pairs (j ∷ l) i r z h =
      let j-is = head_is i j l r in let rest = has_pairs l (i + 1) (tail_is i j l r) z h in
      let low = has_lower (ltb i j) i j (pairs_from (i + 1) l) z in let wz = w z in let wi = w i in
      elim (compare i j) [
        | less k e ↦ let ij = apart i j (λ f. omega arith) in elim (test z i) [
          | same f g ↦ cc (le-leb i i (omega arith), le-leb i j (omega arith))
          | different f ↦ elim (test z j) [
            | same g n ↦ cc (le-leb i i (omega arith), le-leb i j (omega arith))
            | different g ↦ cc (leb_next i z f, leb_next i (M z) (apart (M z) i (λ n. eqb-false z j g.left (cc))))
          ]
        ]
        | not_less k e ↦ elim (test z i) [
          | same f g ↦ elim (test j i) [
            | same n u ↦ cc (eqb_refl i)
            | different n ↦
                cc (
                  not_covered (i + 1) z (cc (lt-leb (i + 1) z (omega arith))),
                  not_covered i z (cc (le-leb i i (omega arith), lt-leb i j (omega (arith, eqb-false j i n.left)))),
                )
          ]
          | different f ↦ elim (test (M z) i) [
            | same g n ↦
                let zj : z ≡ j = cc in let zi : z < i = omega (arith, eqb-false z i f.left) in
                cc (not_covered (i + 1) z (cc (lt-leb (i + 1) z (omega arith))), not_covered i z (cc (lt-leb i z zi)))
            | different g ↦ cc (leb_next i z f, leb_next i (M z) g)
          ]
        ]
      ]

  lower_pair_lem : (b : Bool) (i j : ℕ) (P : List Pair) → (b ≡ true → Disjoint adj m (record { first = i; second = j } ∷ P)) → Disjoint adj m P
      → Disjoint adj m (lower_pair b i j ++ P)
  lower_pair_lem true i j P f d = f refl
  lower_pair_lem false i j P f d = d

  pairs_disjoint : (l : List ℕ) (i : ℕ) → Reads M m i l → Disjoint adj m (pairs_from i l)
  pairs_disjoint [] i r = none
  pairs_disjoint (j ∷ l) i r =
      let j-is = head_is i j l r in let t = tail_is i j l r in let d = pairs_disjoint l (i + 1) t in
      let i-in : i < m = omega (arith, r.reach) in let j-in : j < m = rw j-is (inside i i-in) in
      lower_pair_lem (ltb i j) i j (pairs_from (i + 1) l)
      (λ b.
      let k = ltb-true i j b in let ij = apart i j (λ f. omega arith) in let wi = w i in
      more i-in j-in ij.left (cc)
      (cc (has_pairs l (i + 1) t i i-in, not_covered (i + 1) i (cc (lt-leb (i + 1) i (omega arith)))))
      (cc (
        has_pairs l (i + 1) t j j-in,
        not_covered (i + 1) j (second_false (leb (i + 1) j) (leb (i + 1) (M j)) (cc (lt-leb (i + 1) i (omega arith)))),
      ))
      d)
      d
    where
      second_false : (a b : Bool) → b ≡ false → (a && b) ≡ false
      second_false true b e = e
      second_false false b e = refl

-- the mates of the requests R, as a list and as a function
module _ (R : List Request) (mates : List ℕ) (long : length R ≤ length mates) (M : ℕ → ℕ)
    (entry : (z : ℕ) → z < length R → get_or mates z 0 ≡ M z) (w : Mates (adjacent R) M) where
  reads : Reads M (length R) 0 (take (length R) mates)
  reads = let e = length-take-le (length R) mates long in record {
    entries = λ k h. let z : 0 + k ≡ k = omega arith in rw z (get_or-take (length R) mates k 0 (omega arith) ∙ entry k (omega arith));
    reach = omega arith;
  }

  -- the pairs of the mates are a matching
  pub pairs_matching : IsMatching R (pairs_of (length R) mates)
  unfolding pairs_of
  pairs_matching = is_matching R (pairs_disjoint (adjacent R) (length R) M w (mates_inside R M w) (take (length R) mates) 0 reads)

  -- two requests for each pair
  pub pairs_count : Symmetric (adjacent R) → 2 * length (pairs_of (length R) mates) ≡ count (λ z. not (eqb (M z) z)) (length R)
  unfolding pairs_of
  pairs_count symmetric =
      let inside = mates_inside R M w in let l : List ℕ = take (length R) mates in
      sym (count_ends (adjacent R) symmetric (length R) (pairs_disjoint (adjacent R) (length R) M w inside l 0 reads))
      ∙ sum_ext (λ z. bit (has (request_numbers (pairs_from 0 l)) z)) (λ z. bit (not (eqb (M z) z))) (length R)
      (λ z h. cc (
        has_pairs (adjacent R) (length R) M w inside l 0 reads z h,
        le-leb 0 z (omega arith),
        le-leb 0 (M z) (omega arith),
        and-true (not (eqb (M z) z)),
      ))

  -- where every exposed vertex is frozen, it is a maximum one
  pub maximum_pairs : Symmetric (adjacent R) → (label : ℕ → Label) (base : ℕ → ℕ) → BetweenSearches (adjacent R) M label base (length R)
      → ((z : ℕ) → z < length R → base z < length R) → IsMaximum R (pairs_of (length R) mates)
  maximum_pairs symmetric label base O base-in = record {
    matching = pairs_matching;
    largest = λ Q G. omega (
      arith,
      pairs_count symmetric,
      longest (adjacent R) symmetric (length R) M label base O (mates_inside R M w) base-in Q (disjoint R Q G),
    );
  }

-- A list of disjoint adjacent pairs is a row, and twice its length is the number of vertices that the row moves. So no such list is longer
-- than the matching with which the searches end.
use Prim.Native.Nat.{ℕ, ◌*◌, ◌<◌, ◌≤◌}
use mathlib.Core.Path.{◌≡◌}
use mathlib.Core.Bool.{Bool, true, false, not}
use mathlib.Core.List.{List, [], ◌∷◌}
use native.Mathlib.Omega.{arith}
use lib.Dec.{eqb}
use lib.ListN.{length}
use borrow.Author.Tests.{eqb-true, ne_eqb}
use Rattle.ring.specs.Matchings.{Pair, request_numbers}
use Rattle.ring.proofs.Cases.{yes, no, is, same, different, eqb_refl, test, apart_eqb, impossible}
use Rattle.ring.proofs.Counting.{bit, count, sum_ext, sum_zero, count_split, count_insert, has}
use Rattle.blossom.specs.Internal.Certificate.{BetweenSearches}
use Rattle.blossom.specs.Internal.Labels.{Label, Free}
use Rattle.blossom.specs.Internal.Rows.{Symmetric, IsRow}
use Rattle.blossom.proofs.Duality.{exposed}
use Rattle.blossom.proofs.RowLaws.{paired, paired_is_row}

-- every pair is adjacent, its ends are different numbers below m, and no later pair has one of them
pub data Disjoint (adj : ℕ → ℕ → Bool) (m : ℕ) : List Pair → Type 0 where
  none : Disjoint adj m []
  more : {p : Pair} {P : List Pair} → p.first < m → p.second < m → eqb p.first p.second ≡ false → adj p.first p.second ≡ true
      → has (request_numbers P) p.first ≡ false → has (request_numbers P) p.second ≡ false → Disjoint adj m P → Disjoint adj m (p ∷ P)

mate : List Pair → ℕ → ℕ
mate [] z = z
mate (p ∷ P) z = paired (mate P) p.first p.second z

module _ (adj : ℕ → ℕ → Bool) (symmetric : Symmetric adj) (m : ℕ) where
  mate_row : {P : List Pair} → Disjoint adj m P → IsRow adj (mate P) (λ z. not (has (request_numbers P) z))
  unfolding mate
  mate_row none z = cc (eqb_refl z)
  mate_row (more {p} {P} la lb ab e ha hb d) z =
      let a : ℕ = p.first in let b : ℕ = p.second in let w = mate_row d in
      let ma = eqb-true (mate P a) a (cc (w a)) in let mb = eqb-true (mate P b) b (cc (w b)) in
      let j = paired_is_row adj symmetric (mate P) (λ z. not (has (request_numbers P) z)) w a b ma mb (apart_eqb a b ab) e z in
      elim (is (eqb z a)) [
        | yes f ↦ cc
        | no f ↦ elim (is (eqb z b)) [
          | yes g ↦ cc
          | no g ↦ cc
        ]
      ]

  mate_stay : {P : List Pair} → Disjoint adj m P → (z : ℕ) → z < m → mate P z < m
  unfolding mate
  mate_stay none z h = h
  mate_stay (more {p} {P} la lb ab e ha hb d) z h = elim (test z p.first) [
    | same s f ↦ let x : mate (p ∷ P) z ≡ p.second = cc in rw x lb
    | different f ↦ elim (test z p.second) [
      | same s g ↦ let x : mate (p ∷ P) z ≡ p.first = cc in rw x la
      | different g ↦ let x : mate (p ∷ P) z ≡ mate P z = cc in rw x (mate_stay d z h)
    ]
  ]

  pub count_ends : {P : List Pair} → Disjoint adj m P → count (has (request_numbers P)) m ≡ 2 * length P
  count_ends none = sum_zero m
  count_ends (more {p} {P} la lb ab e ha hb d) = omega (
    arith,
    count_insert (has (p.second ∷ request_numbers P)) p.first m la (cc),
    count_insert (has (request_numbers P)) p.second m lb hb,
    count_ends d,
  )

  pub longest : (M : ℕ → ℕ) (label : ℕ → Label) (base : ℕ → ℕ) → BetweenSearches adj M label base m
      → ((z : ℕ) → z < m → M z < m) → ((z : ℕ) → z < m → base z < m)
      → (P : List Pair) → Disjoint adj m P → 2 * length P ≤ count (λ z. not (eqb (M z) z)) m
  longest M label base O stay base-in P d =
      let w = mate_row d in
      let covered : (z : ℕ) → z < m → label z ≡ Free → eqb (M z) z ≡ false =
      λ z h f. ne_eqb (M z) z (λ e. impossible (cc (O.exposed_frozen z h e))) in
      omega (
        arith,
        exposed adj m M label base O.mates stay O.certificate base-in covered (mate P) (λ z. cc (w z)) (mate_stay d),
        count_ends d,
        sum_ext (λ z. bit (eqb (mate P z) z)) (λ z. bit (not (has (request_numbers P) z))) m (λ z h. cc (w z)),
        count_split (has (request_numbers P)) m,
        count_split (λ z. eqb (M z) z) m,
      )

-- Lists of lengths: limits, sums, and the metres along a way.
use Prim.Native.Nat.{ℕ, zero, suc, ◌+◌, ◌*◌, ◌-◌, ◌≤◌, ◌<◌}
use mathlib.Core.Path.{◌≡◌, refl, ◌∙◌, ap}
use mathlib.Core.Bool.{Bool, true, false, not, cond, ◌&&◌, ◌||◌}
use mathlib.Core.List.{List, [], ◌∷◌}
use native.Mathlib.Omega.{arith}
use native.Mathlib.Numerals.{add-one, unary_clauses}
use borrow.Author.Tests.{ltb-false}
use lib.Dec.{ltb}
use lib.ListN.{length, get_or, take}
use lib.Seq.{take-nil}
use Rattle.ring.specs.declared.requests.Request.{Request}
use Rattle.ring.specs.declared.ways.Way.{Way}
use Rattle.ring.specs.declared.ways.Way.TheVariants.{Plain, Seam}
use Rattle.ring.specs.Ways.{uses}
use Rattle.ring.proofs.Cases.{less, not_less, compare, impossible}
use Rattle.ring.proofs.WayLaws.{plain_uses, plain_avoids_before, plain_avoids_behind, seam_other}
use Rattle.charges.specs.Lengths.{metres_from, metres, some_outside}
use Rattle.charges.specs.Promises.{total, WaysMakeRing}

-- ---- limits

neither : (p q r : Bool) → ((p || q) || r) ≡ false → (q ≡ false) × (r ≡ false)
neither false false r e = (refl, e)
neither false true r e = impossible e
neither true q r e = impossible e

-- where none is outside, none is above the most
pub none_above : (least most : ℕ) (xs : List ℕ) → some_outside least most xs ≡ false → (i : ℕ) → get_or xs i 0 ≤ most
none_above least most [] e i = omega arith
none_above least most (x ∷ xs) e zero = ltb-false most x (neither (ltb x least) (ltb most x) (some_outside least most xs) e).0
none_above least most (x ∷ xs) e (suc i) =
    none_above least most xs (neither (ltb x least) (ltb most x) (some_outside least most xs) e).1 i

-- ---- sums

total_suc : (i : ℕ) (xs : List ℕ) → total (take (suc i) xs) ≡ total (take i xs) + get_or xs i 0
total_suc zero [] = refl
total_suc zero (x ∷ xs) = omega arith
total_suc (suc i) [] = refl
total_suc (suc i) (x ∷ xs) = let rest = total_suc i xs in omega arith

-- the next number is added
pub total_next : (i : ℕ) (xs : List ℕ) → total (take (i + 1) xs) ≡ total (take i xs) + get_or xs i 0
total_next i xs = rw add-one (total_suc i xs)

-- so many lengths of at most 1,000 km
pub total_most : (i : ℕ) (xs : List ℕ) → ((k : ℕ) → get_or xs k 0 ≤ 1000000) → total (take i xs) ≤ 1000000 * i
total_most zero xs h = omega arith
total_most (suc i) xs h = omega (arith, total_suc i xs, total_most i xs h, h i)

-- ---- the metres along a way

plain_from : (i : ℕ) (r : Request) (ls : List ℕ) → metres_from i Plain r ls ≡ total (take (r.b - i) ls) - total (take (r.a - i) ls)
plain_from i r [] = rw (take-nil (r.b - i), take-nil (r.a - i)) refl
plain_from i r (l ∷ ls) =
    let rest = plain_from (i + 1) r ls in
    elim (compare i r.a) [
      | less h t ↦
          let start : r.a - i ≡ suc (r.a - (i + 1)) = omega arith in
          elim (compare i r.b) [
            | less k u ↦
                let end : r.b - i ≡ suc (r.b - (i + 1)) = omega arith in
                rw (plain_avoids_before r i h, start, end) (omega arith)
            | not_less k u ↦
                let end : r.b - i ≡ 0 = omega arith in
                let past : r.b - (i + 1) ≡ 0 = omega arith in
                let none : metres_from (i + 1) Plain r ls ≡ 0 - total (take (r.a - (i + 1)) ls) = rw past at rest in
                rw (plain_avoids_before r i h, start, end) (omega arith)
          ]
      | not_less h t ↦
          let start : r.a - i ≡ 0 = omega arith in
          let past : r.a - (i + 1) ≡ 0 = omega arith in
          elim (compare i r.b) [
            | less k u ↦
                let end : r.b - i ≡ suc (r.b - (i + 1)) = omega arith in
                let more : metres_from (i + 1) Plain r ls ≡ total (take (r.b - (i + 1)) ls) - 0 = rw past at rest in
                rw (plain_uses r i h k, start, end) (omega arith)
            | not_less k u ↦
                let end : r.b - i ≡ 0 = omega arith in
                let gone : r.b - (i + 1) ≡ 0 = omega arith in
                let none : metres_from (i + 1) Plain r ls ≡ 0 = rw (past, gone) at rest in
                rw (plain_avoids_behind r i k, start, end) (omega arith)
          ]
    ]

-- those of the plain way: up to b, less those up to a
pub plain_metres : (r : Request) (ls : List ℕ) → metres Plain r ls ≡ total (take r.b ls) - total (take r.a ls)
unfolding metres
plain_metres r ls = simp unary_clauses at (plain_from 0 r ls)

ring_from : (i : ℕ) (r : Request) (ls : List ℕ) → metres_from i Plain r ls + metres_from i Seam r ls ≡ total ls
ring_from i r [] = refl
ring_from i r (l ∷ ls) = rw (seam_other r i) (go (uses Plain r i) (ring_from (i + 1) r ls))
  where
    go : (t : Bool) → metres_from (i + 1) Plain r ls + metres_from (i + 1) Seam r ls ≡ total ls
        → cond t l 0 + metres_from (i + 1) Plain r ls + (cond (not t) l 0 + metres_from (i + 1) Seam r ls) ≡ l + total ls
    go true rest = omega arith
    go false rest = omega arith

pub ways_make_ring : (r : Request) → WaysMakeRing r
unfolding uses metres
ways_make_ring r = record {
  disjoint = λ link. apart (uses Plain r link);
  covering = λ link. either (uses Plain r link);
  whole = λ lengths. ring_from 0 r lengths;
}
  where
    apart : (t : Bool) → (t && not t) ≡ false
    apart true = refl
    apart false = refl

    either : (t : Bool) → (t || not t) ≡ true
    either true = refl
    either false = refl

-- links of at most 1,000 km each
metres_all : (i : ℕ) (way : Way) (r : Request) (ls : List ℕ) → ((k : ℕ) → get_or ls k 0 ≤ 1000000)
    → metres_from i way r ls ≤ 1000000 * length ls
metres_all i way r [] h = omega arith
metres_all i way r (l ∷ ls) h = go (uses way r i) (metres_all (i + 1) way r ls (λ k. h (suc k))) (h 0)
  where
    go : (t : Bool) → metres_from (i + 1) way r ls ≤ 1000000 * length ls → l ≤ 1000000
        → cond t l 0 + metres_from (i + 1) way r ls ≤ 1000000 * suc (length ls)
    go true rest first = omega arith
    go false rest first = omega arith

-- a way that leaves one of them out
metres_but_one : (i : ℕ) (way : Way) (r : Request) (ls : List ℕ) → ((k : ℕ) → get_or ls k 0 ≤ 1000000) → (j : ℕ) → j < length ls
    → uses way r (i + j) ≡ false → metres_from i way r ls + 1000000 ≤ 1000000 * length ls
metres_but_one i way r [] h j below free = absurd (omega arith)
metres_but_one i way r (l ∷ ls) h zero below free =
    let here : uses way r i ≡ false = ap (uses way r) (omega arith) ∙ free in
    let rest = metres_all (i + 1) way r ls (λ k. h (suc k)) in
    rw here (omega arith)
metres_but_one i way r (l ∷ ls) h (suc j) below free =
    let next : i + 1 + j ≡ i + suc j = omega arith in
    go (uses way r i) (metres_but_one (i + 1) way r ls (λ k. h (suc k)) j (omega arith) (ap (uses way r) next ∙ free)) (h 0)
  where
    go : (t : Bool) → metres_from (i + 1) way r ls + 1000000 ≤ 1000000 * length ls → l ≤ 1000000
        → cond t l 0 + metres_from (i + 1) way r ls + 1000000 ≤ 1000000 * suc (length ls)
    go true rest first = omega arith
    go false rest first = omega arith

-- each way leaves a link out: the plain one the last, the seam one that behind a
pub way_most : (way : Way) (r : Request) (ls : List ℕ) → r.a < r.b → r.b < length ls → ((k : ℕ) → get_or ls k 0 ≤ 1000000)
    → metres way r ls + 1000000 ≤ 1000000 * length ls
unfolding metres
way_most Plain r ls h k most =
    metres_but_one 0 Plain r ls most r.b k (plain_avoids_behind r (0 + r.b) (omega arith))
way_most Seam r ls h k most =
    metres_but_one 0 Seam r ls most r.a (omega arith)
    (seam_other r (0 + r.a) ∙ ap not (plain_uses r (0 + r.a) (omega arith) (omega arith)))

-- longer links make no way shorter
longer_from : (i : ℕ) (way : Way) (r : Request) (ls ms : List ℕ) → length ls ≡ length ms → ((k : ℕ) → get_or ls k 0 ≤ get_or ms k 0)
    → metres_from i way r ls ≤ metres_from i way r ms
longer_from i way r [] [] e h = omega arith
longer_from i way r [] (m ∷ ms) e h = absurd (omega arith)
longer_from i way r (l ∷ ls) [] e h = absurd (omega arith)
longer_from i way r (l ∷ ls) (m ∷ ms) e h =
    go (uses way r i) (longer_from (i + 1) way r ls ms (omega arith) (λ k. h (suc k))) (h 0)
  where
    go : (t : Bool) → metres_from (i + 1) way r ls ≤ metres_from (i + 1) way r ms → l ≤ m
        → cond t l 0 + metres_from (i + 1) way r ls ≤ cond t m 0 + metres_from (i + 1) way r ms
    go true rest first = omega arith
    go false rest first = omega arith

pub longer_metres : (way : Way) (r : Request) (ls ms : List ℕ) → length ls ≡ length ms → ((k : ℕ) → get_or ls k 0 ≤ get_or ms k 0)
    → metres way r ls ≤ metres way r ms
unfolding metres
longer_metres way r ls ms e h = longer_from 0 way r ls ms e h

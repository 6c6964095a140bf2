-- A fate and its number determine each other, also in lists.
use Prim.Native.Nat.{ℕ, zero, suc, ◌+◌, ◌*◌, ◌-◌, ◌/◌, ◌%◌, ◌≤◌, ◌<◌}
use mathlib.Core.Path.{◌≡◌, refl, ap}
use mathlib.Core.List.{List, [], ◌∷◌, map}
use native.Mathlib.Omega.{arith}
use lib.ListN.{length, get_or, get_or-eq_default}
use borrow.Author.Tests.{eq-eqb, ne_eqb, eqb-false}
use Rattle.ring.specs.declared.ways.Way.{Way}
use Rattle.ring.specs.declared.ways.Way.TheVariants.{Plain, Seam}
use Rattle.ring.specs.declared.fates.Fate.{Fate}
use Rattle.ring.specs.declared.fates.Fate.TheVariants.{Blocked, Served}
use Rattle.ring.specs.Fates.{way_number, fate_number, fate_of}
use Rattle.ring.specs.Plans.{fate, fates_of}
use Rattle.ring.proofs.Cases.{same, different, test}

-- the number of a fate stands for it
pub fate_of_number : (f : Fate) → fate_of (fate_number f) ≡ f
unfolding fate_of fate_number
fate_of_number Blocked = refl
fate_of_number (Served Plain c) =
    let half : (2 * c + 1) / 2 ≡ c = omega arith in
    cc (ne_eqb (2 * c + 1) 0 (omega arith), eq-eqb ((2 * c + 1) % 2) 1 (omega arith))
fate_of_number (Served Seam c) =
    let half : (2 * c + 2) / 2 - 1 ≡ c = omega arith in
    cc (ne_eqb (2 * c + 2) 0 (omega arith), ne_eqb ((2 * c + 2) % 2) 1 (omega arith))

-- every number is that of the fate that it stands for
pub number_of_fate : (k : ℕ) → fate_number (fate_of k) ≡ k
unfolding fate_of fate_number
number_of_fate k = elim (test k 0) [
  | same e t ↦ cc
  | different d ↦ elim (test (k % 2) 1) [
    | same e t ↦
        let whole : 2 * (k / 2) + 1 ≡ k = omega arith in
        cc d.left
    | different odd ↦
        let whole : 2 * (k / 2 - 1) + 2 ≡ k = omega (arith, eqb-false k 0 d.left, eqb-false (k % 2) 1 odd.left) in
        cc (d.left, odd.left)
  ]
]

-- the number of a fate that is served
pub served_number_lem : (u : Way) (c : ℕ) → fate_number (Served u c) ≡ 2 * c + 1 + way_number u
unfolding fate_number
served_number_lem Plain c = omega arith
served_number_lem Seam c = omega arith

pub number_blocked : (f : Fate) → f ≡ Blocked → fate_number f ≡ 0
unfolding fate_number
number_blocked f e = ap fate_number e

-- the numbers from 1 to 2 w are those of the colours below w
pub number_within : (u : Way) (c w : ℕ) → c < w → fate_number (Served u c) ≤ 2 * w
unfolding fate_number
number_within Plain c w h = omega arith
number_within Seam c w h = omega arith

pub colour_within : (u : Way) (c w : ℕ) → fate_number (Served u c) ≤ 2 * w → c < w
unfolding fate_number
colour_within Plain c w h = omega arith
colour_within Seam c w h = omega arith

pub served_within : (k w c : ℕ) (u : Way) → fate_of k ≡ Served u c → c < w → k ≤ 2 * w
served_within k w c u e h = omega (arith, number_within u c w h, number_of_fate k, ap fate_number e)

pub within_served : (k w c : ℕ) (u : Way) → fate_of k ≡ Served u c → k ≤ 2 * w → c < w
within_served k w c u e h = colour_within u c w (omega (arith, number_of_fate k, ap fate_number e))

-- lists of numbers, read as fates
pub fates_length : (ks : List ℕ) → length (fates_of ks) ≡ length ks
fates_length [] = refl
fates_length (k ∷ ks) = ap suc (fates_length ks)

-- also past the list, where both are Blocked
pub fate_at : (ks : List ℕ) (i : ℕ) → fate (fates_of ks) i ≡ fate_of (get_or ks i 0)
unfolding fate_of
fate_at [] i = refl
fate_at (k ∷ ks) zero = refl
fate_at (k ∷ ks) (suc i) = fate_at ks i

pub fate_past : (ks : List ℕ) (i : ℕ) → length ks ≤ i → fate (fates_of ks) i ≡ Blocked
fate_past ks i h = get_or-eq_default (fates_of ks) Blocked (omega (arith, fates_length ks))

pub fates_of_numbers : (F : List Fate) → fates_of (map fate_number F) ≡ F
fates_of_numbers [] = refl
fates_of_numbers (f ∷ F) = cc (fate_of_number f, fates_of_numbers F)

pub numbers_of_fates : (ks : List ℕ) → map fate_number (fates_of ks) ≡ ks
numbers_of_fates [] = refl
numbers_of_fates (k ∷ ks) = cc (number_of_fate k, numbers_of_fates ks)

-- How many latest ends are above a point: the measure by which two colourings are compared. Assumes nothing.
use Prim.Native.Nat.{ℕ, zero, suc, ◌+◌, ◌≤◌, ◌<◌}
use mathlib.Core.Path.{◌≡◌, refl}
use mathlib.Core.Logic.{⊎_elim}
use mathlib.Core.List.{List, [], ◌∷◌}
use mathlib.Core.Bool.{cond}
use native.Mathlib.Nat.{not-suc-le-zero, le_of_suc-le-suc}
use native.Mathlib.Omega.{arith}
use lib.ListN.{length, get_or, set, replicate}
use lib.Dec.{ltb}
use borrow.Author.Tests.{le-ltb, lt-ltb}
use Rattle.std.proofs.lemmas.Bool.{cases_lt}

-- 1 where the end is above x
pub above : ℕ → ℕ → ℕ
above end x = cond (ltb x end) 1 0

pub above_one : (end x : ℕ) → x < end → above end x ≡ 1
unfolding above
above_one end x h = simp (lt-ltb x end h)

pub above_zero : (end x : ℕ) → end ≤ x → above end x ≡ 0
unfolding above
above_zero end x h = simp (le-ltb x end h)

pub above_le : (end x : ℕ) → above end x ≤ 1
above_le end x = ⊎_elim (λ h. omega (arith, above_one end x h)) (λ h. omega (arith, above_zero end x h)) (cases_lt x end)

above_falls : (end x y : ℕ) → x ≤ y → above end y ≤ above end x
above_falls end x y l =
    ⊎_elim (λ h. omega (arith, above_one end x h, above_le end y)) (λ h. omega (arith, above_zero end y (omega arith))) (cases_lt x end)

-- how many of the ends are above x
pub count_above : List ℕ → ℕ → ℕ
count_above [] x = 0
count_above (end ∷ latest) x = above end x + count_above latest x

pub count_set : (l : List ℕ) (c b x : ℕ) → c < length l → count_above (set l c b) x + above (get_or l c 0) x ≡ count_above l x + above b x
unfolding count_above
count_set [] c b x h = absurd (not-suc-le-zero h)
count_set (v ∷ l) zero b x h = omega arith
count_set (v ∷ l) (suc c) b x h = omega (arith, count_set l c b x (le_of_suc-le-suc h))

pub count_le : (l : List ℕ) (x : ℕ) → count_above l x ≤ length l
unfolding count_above
count_le [] x = omega arith
count_le (v ∷ l) x = omega (arith, above_le v x, count_le l x)

count_falls : (l : List ℕ) (x y : ℕ) → x ≤ y → count_above l y ≤ count_above l x
unfolding count_above
count_falls [] x y h = omega arith
count_falls (v ∷ l) x y h = omega (arith, above_falls v x y h, count_falls l x y h)

-- an end in between counts
pub count_between : (l : List ℕ) (c x y : ℕ) → c < length l → x < get_or l c 0 → get_or l c 0 ≤ y → count_above l y + 1 ≤ count_above l x
unfolding count_above
count_between [] c x y h p q = absurd (not-suc-le-zero h)
count_between (v ∷ l) zero x y h p q = omega (arith, above_one v x p, above_zero v y q, count_falls l x y (omega arith))
count_between (v ∷ l) (suc c) x y h p q =
    let ih = count_between l c x y (le_of_suc-le-suc h) p q in
    omega (arith, above_falls v x y (omega arith))

-- an end that is not above x is left out
pub count_misses : (l : List ℕ) (c x : ℕ) → c < length l → get_or l c 0 ≤ x → count_above l x + 1 ≤ length l
unfolding count_above
count_misses [] c x h q = absurd (not-suc-le-zero h)
count_misses (v ∷ l) zero x h q = omega (arith, above_zero v x q, count_le l x)
count_misses (v ∷ l) (suc c) x h q = omega (arith, above_le v x, count_misses l c x (le_of_suc-le-suc h) q)

-- if no end lies above x and not above a, as many are above x as above a
pub count_gap : (l : List ℕ) (x a : ℕ) → ((d : ℕ) → d < length l → get_or l d 0 ≤ a → get_or l d 0 ≤ x) → count_above l x ≤ count_above l a
unfolding count_above
count_gap [] x a h = omega arith
count_gap (v ∷ l) x a h =
    let rest = count_gap l x a (λ d i. h (suc d) (omega arith)) in
    ⊎_elim
    (λ over. omega (arith, above_one v a over, above_le v x))
    (λ fits. omega (arith, above_zero v x (h 0 (omega arith) fits)))
    (cases_lt a v)

-- if every end is above a, all count
pub count_all : (l : List ℕ) (a : ℕ) → ((d : ℕ) → d < length l → a < get_or l d 0) → length l ≤ count_above l a
unfolding count_above
count_all [] a h = omega arith
count_all (v ∷ l) a h = omega (arith, above_one v a (h 0 (omega arith)), count_all l a (λ d i. h (suc d) (omega arith)))

pub count_zeros : (w x : ℕ) → count_above (replicate w 0) x ≡ 0
unfolding count_above
count_zeros zero x = refl
count_zeros (suc w) x = omega (arith, above_zero 0 x (omega arith), count_zeros w x)

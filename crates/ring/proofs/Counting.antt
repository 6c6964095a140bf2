-- Sums over the numbers below m, and how many of them meet a test.
use Prim.Native.Nat.{ℕ, zero, suc, ◌+◌, ◌*◌, ◌<◌, ◌≤◌}
use mathlib.Core.Path.{◌≡◌, refl, sym, ◌∙◌}
use mathlib.Core.Bool.{Bool, true, false, not, cond, ◌&&◌, ◌||◌, false≢true}
use mathlib.Core.List.{List, [], ◌∷◌}
use native.Mathlib.Omega.{arith}
use lib.Dec.{eqb, ltb}
use lib.ListN.{length, get_or}
use borrow.Author.Tests.{eqb-false, ne_eqb, ltb-true, ltb-false, lt-ltb, le-ltb}
use Rattle.ring.proofs.Cases.{two, keep_apart, same, different, test, eqb_refl, yes, no, is}

-- f 0 + .. + f (m - 1)
unfoldable pub sum : (ℕ → ℕ) → ℕ → ℕ
sum f zero = 0
sum f (suc m) = sum f m + f m

abbrev pub bit : Bool → ℕ
bit true = 1
bit false = 0

-- the number of z below m with p z
abbrev pub count : (ℕ → Bool) → ℕ → ℕ
count p m = sum (λ z. bit (p z)) m

pub bit_le : (a b : Bool) → (a ≡ true → b ≡ true) → bit a ≤ bit b
bit_le true true h = omega arith
bit_le true false h = absurd (false≢true (h refl))
bit_le false b h = omega arith

pub bit_le_or : (a b c : Bool) → (a ≡ true → (b || c) ≡ true) → bit a ≤ bit b + bit c
bit_le_or true true c h = omega arith
bit_le_or true false true h = omega arith
bit_le_or true false false h = absurd (false≢true (h refl))
bit_le_or false b c h = omega arith

-- sums of equal, of smaller and of added terms
pub sum_ext : (f g : ℕ → ℕ) (m : ℕ) → ((z : ℕ) → z < m → f z ≡ g z) → sum f m ≡ sum g m
unfolding sum
sum_ext f g zero h = refl
sum_ext f g (suc m) h = cc (sum_ext f g m (λ z l. h z (omega arith)), h m (omega arith))

pub sum_le : (f g : ℕ → ℕ) (m : ℕ) → ((z : ℕ) → z < m → f z ≤ g z) → sum f m ≤ sum g m
unfolding sum
sum_le f g zero h = omega arith
sum_le f g (suc m) h = omega (arith, sum_le f g m (λ z l. h z (omega arith)), h m (omega arith))

pub sum_add : (f g : ℕ → ℕ) (m : ℕ) → sum (λ z. f z + g z) m ≡ sum f m + sum g m
unfolding sum
sum_add f g zero = refl
sum_add f g (suc m) = omega (arith, sum_add f g m)

pub sum_zero : (m : ℕ) → sum (λ z. 0) m ≡ 0
unfolding sum
sum_zero zero = refl
sum_zero (suc m) = omega (arith, sum_zero m)

pub sum_one : (m : ℕ) → sum (λ z. 1) m ≡ m
unfolding sum
sum_one zero = refl
sum_one (suc m) = omega (arith, sum_one m)

-- a sum over pairs of numbers may be taken in either order
pub sum_swap : (f : ℕ → ℕ → ℕ) (m n : ℕ) → sum (λ a. sum (f a) n) m ≡ sum (λ b. sum (λ a. f a b) m) n
unfolding sum
sum_swap f zero n = sym (sum_zero n)
sum_swap f (suc m) n = omega (arith, sum_swap f m n, sum_add (λ b. sum (λ a. f a b) m) (f m) n)

pub sum_all_zero : (f : ℕ → ℕ) (m : ℕ) → ((z : ℕ) → z < m → f z ≡ 0) → sum f m ≡ 0
sum_all_zero f m h = sum_ext f (λ z. 0) m h ∙ sum_zero m

-- the sum of what is 0 everywhere but at a
pub sum_at : (g : ℕ → ℕ) (a m : ℕ) → a < m → sum (λ z. cond (eqb z a) (g z) 0) m ≡ g a
unfolding sum
sum_at g a zero h = omega arith
sum_at g a (suc m) h = elim (test m a) [
  | same s e ↦
      let here : cond (eqb m a) (g m) 0 ≡ g a = cc in
      omega (arith, sum_all_zero (λ z. cond (eqb z a) (g z) 0) m (λ z l. let n = ne_eqb z a (λ q. omega arith) in cc))
  | different d ↦
      let here : cond (eqb m a) (g m) 0 ≡ 0 = cc in
      omega (arith, sum_at g a m (omega (arith, eqb-false m a d.left)))
]

-- a sum by classes, each number z in the class of base z
pub sum_by_class : (g base : ℕ → ℕ) (m : ℕ) → ((z : ℕ) → z < m → base z < m)
    → sum g m ≡ sum (λ b. sum (λ z. cond (eqb b (base z)) (g z) 0) m) m
sum_by_class g base m h =
    sum_ext g (λ z. sum (λ b. cond (eqb b (base z)) (g z) 0) m) m (λ z l. sym (sum_at (λ b. g z) (base z) m (h z l)))
    ∙ sum_swap (λ z b. cond (eqb b (base z)) (g z) 0) m m

-- a smaller set, the whole, the complement, and one member more
pub count_le : (p q : ℕ → Bool) (m : ℕ) → ((z : ℕ) → z < m → p z ≡ true → q z ≡ true) → count p m ≤ count q m
count_le p q m h = sum_le (λ z. bit (p z)) (λ z. bit (q z)) m (λ z l. bit_le (p z) (q z) (h z l))

pub count_true : (m : ℕ) → count (λ z. true) m ≡ m
count_true m = sum_one m

pub count_split : (p : ℕ → Bool) (m : ℕ) → count p m + count (λ z. not (p z)) m ≡ m
count_split p m =
    sym (sum_add (λ z. bit (p z)) (λ z. bit (not (p z))) m)
    ∙ (sum_ext (λ z. bit (p z) + bit (not (p z))) (λ z. 1) m (λ z l. one (p z)) ∙ sum_one m)
  where
    one : (b : Bool) → bit b + bit (not b) ≡ 1
    one true = refl
    one false = refl

pub count_insert : (p : ℕ → Bool) (x m : ℕ) → x < m → p x ≡ false → count (λ z. eqb z x || p z) m ≡ suc (count p m)
count_insert p x m l n = omega (
  arith,
  sum_ext (λ z. bit (eqb z x || p z)) (λ z. cond (eqb z x) 1 0 + bit (p z)) m part,
  sum_add (λ z. cond (eqb z x) 1 0) (λ z. bit (p z)) m,
  sum_at (λ z. 1) x m l,
)
  where
    part : (z : ℕ) → z < m → bit (eqb z x || p z) ≡ cond (eqb z x) 1 0 + bit (p z)
    part z h = elim (test z x) [
      | same e f ↦ cc
      | different e ↦ elim (is (p z)) [ yes f ↦ cc | no f ↦ cc ]
    ]

module _ (f : ℕ → ℕ) (inv : (z : ℕ) → f (f z) ≡ z) (m : ℕ) (stay : (z : ℕ) → z < m → f z < m) where
  turn : (k z w : ℕ) → cond (eqb w (f z)) k 0 ≡ cond (eqb z (f w)) k 0
  turn k z w = elim (test w (f z)) [
    | same s e ↦ cc (eqb_refl z, inv z)
    | different d ↦ cc ((keep_apart f inv w (f z) d).right, inv z)
  ]

  -- an involution of the numbers below m keeps sums, and so counts
  pub sum_involution : (g : ℕ → ℕ) → sum (λ z. g (f z)) m ≡ sum g m
  sum_involution g =
      sum_ext (λ z. g (f z)) (λ z. sum (λ w. cond (eqb w (f z)) (g w) 0) m) m (λ z l. sym (sum_at g (f z) m (stay z l)))
      ∙ (sum_swap (λ z w. cond (eqb w (f z)) (g w) 0) m m
      ∙ sum_ext (λ w. sum (λ z. cond (eqb w (f z)) (g w) 0) m) g m
      (λ w l. sum_ext _ _ m (λ z k. turn (g w) z w) ∙ sum_at (λ z. g w) (f w) m (stay w l)))

  -- a set that an involution keeps, with no fixed point in it, has an even number of members: twice those that are below their images
  pub even_without_fixed_points : (p : ℕ → Bool) → ((z : ℕ) → z < m → p z ≡ true → two (p (f z)) (eqb (f z) z) ≡ two true false)
      → count p m ≡ 2 * count (λ z. p z && ltb z (f z)) m
  even_without_fixed_points p h =
      let up : ℕ → ℕ = λ z. bit (p z && ltb z (f z)) in
      omega (arith, sum_ext (λ z. bit (p z)) (λ z. up z + up (f z)) m part, sum_add up (λ z. up (f z)) m, sum_involution up)
    where
      part : (z : ℕ) → z < m → bit (p z) ≡ bit (p z && ltb z (f z)) + bit (p (f z) && ltb (f z) (f (f z)))
      part z l = elim (is (p z)) [
        | yes a ↦
            let b = h z l a in
            elim (is (ltb z (f z))) [
              | yes u ↦ cc (le-ltb (f z) z (omega (arith, ltb-true z (f z) u)), inv z)
              | no u ↦ cc (lt-ltb (f z) z (omega (arith, ltb-false z (f z) u, eqb-false (f z) z (cc))), inv z)
            ]
        | no a ↦ elim (is (p (f z))) [
          | yes b ↦ cc (h (f z) (stay z l) b, inv z)
          | no b ↦ cc
        ]
      ]

-- z stands in the list
abbrev pub has : List ℕ → ℕ → Bool
has [] z = false
has (x ∷ l) z = eqb z x || has l z

pub has_none : (l : List ℕ) (z : ℕ) → ((i : ℕ) → i < length l → z ≡ get_or l i 0 → ⊥) → has l z ≡ false
has_none [] z h = refl
has_none (x ∷ l) z h = cc (ne_eqb z x (h 0 (omega arith)), has_none l z (λ i k. h (suc i) (omega arith)))

pub has_all : (l : List ℕ) (p : ℕ → Bool) → ((i : ℕ) → i < length l → p (get_or l i 0) ≡ true) → (z : ℕ) → has l z ≡ true → p z ≡ true
has_all [] p h z e = cc
has_all (x ∷ l) p h z e = elim (test z x) [
  | same f g ↦ cc (h 0 (omega arith))
  | different f ↦ has_all l p (λ i k. h (suc i) (omega arith)) z (cc)
]

-- as many numbers stand in a list as it is long, if none stands twice
pub count_has : (l : List ℕ) (m : ℕ) → ((i : ℕ) → i < length l → get_or l i 0 < m)
    → ((i j : ℕ) → i < j → j < length l → get_or l i 0 ≡ get_or l j 0 → ⊥) → count (has l) m ≡ length l
count_has [] m b d = sum_zero m
count_has (x ∷ l) m b d = omega (
  arith,
  count_insert (has l) x m (b 0 (omega arith)) (has_none l x (λ i k. d 0 (suc i) (omega arith) (omega arith))),
  count_has l m (λ i k. b (suc i) (omega arith)) (λ i j k n. d (suc i) (suc j) (omega arith) (omega arith)),
)

-- a list of different numbers is no longer than what it is drawn from
pub length_le_count : (l : List ℕ) (p : ℕ → Bool) (m : ℕ) → ((i : ℕ) → i < length l → get_or l i 0 < m)
    → ((i : ℕ) → i < length l → p (get_or l i 0) ≡ true) → ((i j : ℕ) → i < j → j < length l → get_or l i 0 ≡ get_or l j 0 → ⊥)
    → length l ≤ count p m
length_le_count l p m b h d = omega (arith, count_has l m b d, count_le (has l) p m (λ z k. has_all l p h z))

pub length_le : (l : List ℕ) (m : ℕ) → ((i : ℕ) → i < length l → get_or l i 0 < m)
    → ((i j : ℕ) → i < j → j < length l → get_or l i 0 ≡ get_or l j 0 → ⊥) → length l ≤ m
length_le l m b d = omega (arith, length_le_count l (λ z. true) m b (λ i h. refl) d, count_true m)

-- How many requests a plan serves.
use Prim.Native.Nat.{ℕ, zero, suc, ◌+◌, ◌≤◌, ◌<◌}
use mathlib.Core.Path.{◌≡◌, refl, sym, ap, ◌∙◌}
use mathlib.Core.Bool.{Bool, true, false}
use mathlib.Core.List.{List, [], ◌∷◌, ◌++◌}
use native.Mathlib.Omega.{arith}
use lib.ListN.{length, set, replicate}
use Rattle.ring.specs.declared.ways.Way.{Way}
use Rattle.ring.specs.declared.fates.Fate.{Fate}
use Rattle.ring.specs.declared.fates.Fate.TheVariants.{Blocked, Served}
use Rattle.ring.specs.Plans.{fate, served}
use Rattle.ring.proofs.Cases.{impossible}
use Rattle.ring.proofs.Counting.{sum, bit, count, sum_ext}

-- a fate is not blocked
abbrev pub served? : Fate → Bool
served? Blocked = false
served? (Served way colour) = true

-- what the test says
pub record IsServed (f : Fate) : Type 0 where
  pub way : Way
  pub colour : ℕ
  pub is : f ≡ Served way colour

pub served_yes : (f : Fate) → served? f ≡ true → IsServed f
served_yes Blocked e = impossible (sym e)
served_yes (Served u c) e = record { way = u; colour = c; is = refl }

pub served_no : (f : Fate) → served? f ≡ false → f ≡ Blocked
served_no Blocked e = refl
served_no (Served u c) e = impossible e

-- only a request of the list is served
pub served_in : (F : List Fate) (i c : ℕ) (u : Way) → fate F i ≡ Served u c → i < length F
served_in [] i c u e = impossible (cc)
served_in (f ∷ F) zero c u e = omega arith
served_in (f ∷ F) (suc i) c u e = omega (arith, served_in F i c u e)

-- the first fate, and the others
pub served_cons : (f : Fate) (F : List Fate) → served (f ∷ F) ≡ bit (served? f) + served F
unfolding served
served_cons Blocked F = omega arith
served_cons (Served u c) F = omega arith

pub served_none : served [] ≡ 0
unfolding served
served_none = refl

pub served_le : (F : List Fate) → served F ≤ length F
served_le [] = omega (arith, served_none)
served_le (f ∷ F) = omega (arith, served_cons f F, served_le F, bit_one (served? f))
  where
    bit_one : (b : Bool) → bit b ≤ 1
    bit_one true = omega arith
    bit_one false = omega arith

pub served_append : (F G : List Fate) → served (F ++ G) ≡ served F + served G
served_append [] G = omega (arith, served_none)
served_append (f ∷ F) G = omega (arith, served_cons f F, served_cons f (F ++ G), served_append F G)

pub served_blocked : (m : ℕ) → served (replicate m Blocked) ≡ 0
unfolding served
served_blocked zero = refl
served_blocked (suc m) = served_blocked m

-- one fate changed
pub served_set : (F : List Fate) (i : ℕ) (f : Fate) → i < length F
    → served (set F i f) + bit (served? (fate F i)) ≡ served F + bit (served? f)
served_set [] i f h = omega arith
served_set (g ∷ F) zero f h = omega (arith, served_cons g F, served_cons f F)
served_set (g ∷ F) (suc i) f h = omega (arith, served_cons g F, served_cons g (set F i f), served_set F i f (omega arith))

-- the sum from the first term on
pub sum_first : (f : ℕ → ℕ) (m : ℕ) → sum f (suc m) ≡ f 0 + sum (λ z. f (suc z)) m
unfolding sum
sum_first f zero = omega arith
sum_first f (suc m) = omega (arith, sum_first f m)

-- the number served is the number of places with a served fate
pub served_count_lem : (F : List Fate) → served F ≡ count (λ i. served? (fate F i)) (length F)
unfolding sum
served_count_lem [] = served_none
served_count_lem (f ∷ F) = omega (arith, served_cons f F, served_count_lem F, sum_first (λ i. bit (served? (fate (f ∷ F) i))) (length F))

-- fate by fate: as a count of a given test, equal and at most
pub served_test : (F : List Fate) (p : ℕ → Bool) → ((i : ℕ) → i < length F → served? (fate F i) ≡ p i) → served F ≡ count p (length F)
served_test F p h = served_count_lem F ∙ sum_ext (λ i. bit (served? (fate F i))) (λ i. bit (p i)) (length F) (λ i l. ap bit (h i l))

-- Lists of the values that a function has at chosen numbers, and lists with no number twice.
use Prim.Native.Nat.{ℕ, zero, suc, ◌<◌}
use mathlib.Core.Path.{◌≡◌, refl}
use mathlib.Core.Bool.{Bool, true, false}
use mathlib.Core.List.{List, [], ◌∷◌}
use native.Mathlib.Omega.{arith}
use lib.ListN.{length, get_or}
use Rattle.ring.specs.Matchings.{Pair, pair, request_numbers, NoTwice}

-- one element more, if the test holds
abbrev pub cons_if : {A : Type 0} → Bool → A → List A → List A
cons_if true a l = a ∷ l
cons_if false a l = l

-- the values of f at the numbers below m that meet the test, by rising number
abbrev pub collect : {A : Type 0} → (ℕ → Bool) → (ℕ → A) → ℕ → List A
collect p f zero = []
collect p f (suc m) = cons_if (p 0) (f 0) (collect (λ i. p (suc i)) (λ i. f (suc i)) m)

-- there are as many of one function as of another
pub collect_length : {A B : Type 0} (p : ℕ → Bool) (f : ℕ → A) (g : ℕ → B) (m : ℕ) → length (collect p f m) ≡ length (collect p g m)
collect_length p f g zero = refl
collect_length {A} {B} p f g (suc m) = one (p 0) _ _ (collect_length (λ i. p (suc i)) (λ i. f (suc i)) (λ i. g (suc i)) m)
  where
    one : (b : Bool) (l : List A) (k : List B) → length l ≡ length k → length (cons_if b (f 0) l) ≡ length (cons_if b (g 0) k)
    one true l k e = omega arith
    one false l k e = e

-- what holds of an element and of each of a list holds of each after the element is put in front, or not
cons_all : {A : Type 0} (Q : A → Type 0) (b : Bool) (a d : A) (l : List A) → (b ≡ true → Q a) → ((k : ℕ) → k < length l → Q (get_or l k d))
    → (k : ℕ) → k < length (cons_if b a l) → Q (get_or (cons_if b a l) k d)
cons_all Q true a d l here rest zero h = here refl
cons_all Q true a d l here rest (suc k) h = rest k (omega arith)
cons_all Q false a d l here rest k h = rest k h

-- what holds of the value at each chosen number holds of each place of the list
pub collect_all : {A : Type 0} (p : ℕ → Bool) (f : ℕ → A) (d : A) (Q : A → Type 0) (m : ℕ) → ((i : ℕ) → i < m → p i ≡ true → Q (f i))
    → (k : ℕ) → k < length (collect p f m) → Q (get_or (collect p f m) k d)
collect_all p f d Q zero h k l = absurd (omega arith)
collect_all p f d Q (suc m) h k l = cons_all Q (p 0) (f 0) d (collect (λ i. p (suc i)) (λ i. f (suc i)) m) (h 0 (omega arith))
    (collect_all (λ i. p (suc i)) (λ i. f (suc i)) d Q m (λ i j. h (suc i) (omega arith))) k l

-- one number more, which does not stand in the list
pub no_twice_cons : (x : ℕ) (l : List ℕ) → ((j : ℕ) → j < length l → x ≡ get_or l j 0 → ⊥) → NoTwice l → NoTwice (x ∷ l)
no_twice_cons x l new once zero zero h k e = omega arith
no_twice_cons x l new once zero (suc j) h k e = new j (omega arith) e
no_twice_cons x l new once (suc i) zero h k e = omega arith
no_twice_cons x l new once (suc i) (suc j) h k e = once i j (omega arith) (omega arith) e

-- f has different values at different chosen numbers
pub collect_once : (p : ℕ → Bool) (f : ℕ → ℕ) (m : ℕ) → ((i j : ℕ) → i < j → j < m → p i ≡ true → p j ≡ true → f i ≡ f j → ⊥)
    → NoTwice (collect p f m)
collect_once p f zero h = λ i j l k e. omega arith
collect_once p f (suc m) h = one (p 0) refl
    (collect_once (λ i. p (suc i)) (λ i. f (suc i)) m (λ i j l k. h (suc i) (suc j) (omega arith) (omega arith)))
  where
    rest : List ℕ
    rest = collect (λ i. p (suc i)) (λ i. f (suc i)) m

    one : (b : Bool) → p 0 ≡ b → NoTwice rest → NoTwice (cons_if b (f 0) rest)
    one true e once = no_twice_cons (f 0) rest (collect_all (λ i. p (suc i)) (λ i. f (suc i)) 0 (λ x. f 0 ≡ x → ⊥) m
        (λ i l t. h 0 (suc i) (omega arith) (omega arith) e t)) once
    one false e once = once

-- what holds of both numbers of each pair holds of each place of the list of all numbers
pub ends_all : (Q : ℕ → Type 0) (P : List Pair) → ((k : ℕ) → k < length P → Q (pair P k).first × Q (pair P k).second)
    → (j : ℕ) → j < length (request_numbers P) → Q (get_or (request_numbers P) j 0)
ends_all Q [] h j l = absurd (omega arith)
ends_all Q (p ∷ P) h zero l = (h 0 (omega arith)).0
ends_all Q (p ∷ P) h (suc zero) l = (h 0 (omega arith)).1
ends_all Q (p ∷ P) h (suc (suc j)) l = ends_all Q P (λ k i. h (suc k) (omega arith)) j (omega arith)

-- a number is in neither place of a pair
abbrev pub NotIn : ℕ → Pair → Type 0
NotIn x q = (x ≡ q.first → ⊥) × (x ≡ q.second → ⊥)

-- one pair more, of two numbers that are different and in none of the pairs
pub ends_cons : (p : Pair) (P : List Pair) → (p.first ≡ p.second → ⊥)
    → ((k : ℕ) → k < length P → NotIn p.first (pair P k)) → ((k : ℕ) → k < length P → NotIn p.second (pair P k))
    → NoTwice (request_numbers P) → NoTwice (request_numbers (p ∷ P))
ends_cons p P differ first second once =
    no_twice_cons p.first (p.second ∷ request_numbers P) front
    (no_twice_cons p.second (request_numbers P) (ends_all (λ x. p.second ≡ x → ⊥) P second) once)
  where
    front : (j : ℕ) → j < length (p.second ∷ request_numbers P) → p.first ≡ get_or (p.second ∷ request_numbers P) j 0 → ⊥
    front zero h = differ
    front (suc j) h = ends_all (λ x. p.first ≡ x → ⊥) P first j (omega arith)

-- pairs of different numbers, with none in common
pub pairs_once : (p : ℕ → Bool) (f : ℕ → Pair) (m : ℕ) → ((i : ℕ) → i < m → p i ≡ true → (f i).first ≡ (f i).second → ⊥)
    → ((i j : ℕ) → i < j → j < m → p i ≡ true → p j ≡ true → NotIn (f i).first (f j) × NotIn (f i).second (f j))
    → NoTwice (request_numbers (collect p f m))
pairs_once p f zero h g = λ i j l k e. omega arith
pairs_once p f (suc m) h g = one (p 0) refl
    (pairs_once (λ i. p (suc i)) (λ i. f (suc i)) m (λ i l. h (suc i) (omega arith))
    (λ i j l k. g (suc i) (suc j) (omega arith) (omega arith)))
  where
    rest : List Pair
    rest = collect (λ i. p (suc i)) (λ i. f (suc i)) m

    all : (Q : Pair → Type 0) → ((i : ℕ) → suc i < suc m → p (suc i) ≡ true → Q (f (suc i))) → (k : ℕ) → k < length rest → Q (pair rest k)
    all Q q = collect_all (λ i. p (suc i)) (λ i. f (suc i)) (record { first = 0; second = 0 }) Q m (λ i l. q i (omega arith))

    one : (b : Bool) → p 0 ≡ b → NoTwice (request_numbers rest) → NoTwice (request_numbers (cons_if b (f 0) rest))
    one true e once = ends_cons (f 0) rest (h 0 (omega arith) e)
        (all (NotIn (f 0).first) (λ i l t. (g 0 (suc i) (omega arith) l e t).0))
        (all (NotIn (f 0).second) (λ i l t. (g 0 (suc i) (omega arith) l e t).1)) once
    one false e once = once

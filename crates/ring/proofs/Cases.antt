-- Case splits that keep their equations. Facts are equations of Bools and numbers, so that `cc` proves the end of each case from the few
-- facts that it uses.
use Prim.Native.Nat.{ℕ, ◌<◌, ◌≤◌}
use mathlib.Core.Path.{◌≡◌, refl, sym}
use mathlib.Core.Bool.{Bool, true, false, true≢false, ◌&&◌}
use lib.Dec.{eqb, ltb}
use borrow.Author.Tests.{eqb-true, eqb-false, eq-eqb, ne_eqb, ltb-true, ltb-false}

-- a test is true or false
pub data Is (b : Bool) : Type 0 where
  yes : b ≡ true → Is b
  no : b ≡ false → Is b

pub is : (b : Bool) → Is b
is true = yes refl
is false = no refl

-- two different numbers, as the test for equality has it either way round
pub record Apart (a b : ℕ) : Type 0 where
  pub left : eqb a b ≡ false
  pub right : eqb b a ≡ false

-- two numbers are the same or different
pub data Same (a b : ℕ) : Type 0 where
  same : a ≡ b → eqb a b ≡ true → Same a b
  different : Apart a b → Same a b

pub eqb_sym : (a b : ℕ) → eqb a b ≡ false → eqb b a ≡ false
eqb_sym a b e = ne_eqb b a (λ p. eqb-false a b e (sym p))

pub eqb_refl : (a : ℕ) → eqb a a ≡ true
eqb_refl a = eq-eqb a a refl

pub test : (a b : ℕ) → Same a b
test a b = go (eqb a b) refl
  where
    go : (k : Bool) → eqb a b ≡ k → Same a b
    go true e = same (eqb-true a b e) e
    go false e = different (record { left = e; right = eqb_sym a b e })

-- a number is below another, or it is not
pub data Compare (a b : ℕ) : Type 0 where
  less : a < b → ltb a b ≡ true → Compare a b
  not_less : b ≤ a → ltb a b ≡ false → Compare a b

pub compare : (a b : ℕ) → Compare a b
compare a b = go (ltb a b) refl
  where
    go : (k : Bool) → ltb a b ≡ k → Compare a b
    go true e = less (ltb-true a b e) e
    go false e = not_less (ltb-false a b e) e

-- what makes two numbers different: that they are not equal, that the test says so, that another test tells them apart, that they are the
-- images
-- of different numbers under an involution
pub apart : (a b : ℕ) → (a ≡ b → ⊥) → Apart a b
apart a b h = record { left = ne_eqb a b h; right = ne_eqb b a (λ p. h (sym p)) }

pub apart_eqb : (a b : ℕ) → eqb a b ≡ false → Apart a b
apart_eqb a b e = record { left = e; right = eqb_sym a b e }

pub tell_apart : (f : ℕ → Bool) (a b : ℕ) → f a ≡ true → f b ≡ false → Apart a b
tell_apart f a b s t = apart a b (λ e. true≢false (cc))

pub keep_apart : (R : ℕ → ℕ) (inv : (z : ℕ) → R (R z) ≡ z) (a b : ℕ) → Apart a b → Apart (R a) (R b)
keep_apart R inv a b h = apart (R a) (R b) (λ p. eqb-false a b h.left (cc (inv a, inv b)))

-- two or three values as one: an equation of these says two or three equations, and `cc` makes it and takes it apart
pub data Two (A B : Type 0) : Type 0 where
  two : A → B → Two A B

pub data Three (A B C : Type 0) : Type 0 where
  three : A → B → C → Three A B C

-- a case that does not arise
pub impossible : {A : Type 0} → true ≡ false → A
impossible e = absurd (true≢false e)

-- both of two tests hold
pub and_true : (p q : Bool) → (p && q) ≡ true → (p ≡ true) × (q ≡ true)
and_true true q e = (refl, e)
and_true false q e = impossible (sym e)

-- A blossom, and the state in which it is shrunk.
use Prim.Native.Nat.{ℕ, ◌<◌, ◌≤◌}
use mathlib.Core.Path.{◌≡◌}
use mathlib.Core.Bool.{Bool, true, false, cond, ◌&&◌, ◌||◌}
use lib.Dec.{eqb}
use Rattle.ring.proofs.Cases.{three}
use Rattle.blossom.specs.Internal.Labels.{Even, Odd, even?}
use Rattle.blossom.specs.Internal.State.{State, below}
use Rattle.blossom.proofs.Absorb.{absorbed_row}

-- the vertices of the new class: those of A, the class of k, and the classes whose bases hang from A
abbrev pub merged : (ℕ → ℕ) → State → (ℕ → Bool) → ℕ → ℕ → Bool
merged M s A k z = A z || even? (s.label z) && (eqb (s.base z) k || A (M (s.base z)))

-- the state after the step: v in A gets the order o v, and c is the new clock
abbrev pub shrunk : (ℕ → ℕ) → State → (ℕ → Bool) → (ℕ → ℕ) → (ℕ → ℕ) → ℕ → (ℕ → ℕ) → ℕ → State
shrunk M s A p q k o c = record {
  label = λ z. cond (A z) Even (s.label z);
  base = λ z. cond (merged M s A k z) k (s.base z);
  parent = s.parent;
  order = λ z. cond (A z) (o z) (s.order z);
  row = λ a z. cond (A a) (absorbed_row M s (p a) (q a) a z) (s.row a z);
  clock = c;
}

-- what makes A the odd vertices of a blossom with the base k: for v in A, p v and q v are the ends of the edge that closes the blossom, v
-- is above the first and not above the other; an odd vertex outside of A is above both ends, and above g and k, or above none of them
pub record Blossom (adj : ℕ → ℕ → Bool) (M : ℕ → ℕ) (s : State) (A : ℕ → Bool) (p q : ℕ → ℕ) (g k : ℕ) : Type 0 where
  pub cycle_odd : (v : ℕ) → A v ≡ true → s.label v ≡ Odd
  pub p_even : (v : ℕ) → A v ≡ true → s.label (p v) ≡ Even
  pub q_even : (v : ℕ) → A v ≡ true → s.label (q v) ≡ Even
  pub p_in : (v : ℕ) → A v ≡ true → below M s v (p v) ≡ true
  pub q_out : (v : ℕ) → A v ≡ true → below M s v (q v) ≡ false
  pub edge : (v : ℕ) → A v ≡ true → adj (p v) (q v) ≡ true
  pub p_level : (t v : ℕ) → s.label t ≡ Odd → A t ≡ false → A v ≡ true → below M s t (p v) ≡ below M s t g
  pub q_level : (t v : ℕ) → s.label t ≡ Odd → A t ≡ false → A v ≡ true → below M s t (q v) ≡ below M s t g
  pub k_base : three (s.label k) (s.base k) (A (M k)) ≡ three Even k false
  pub k_level : (t : ℕ) → s.label t ≡ Odd → A t ≡ false → below M s t g ≡ below M s t k
  pub k_order : (v : ℕ) → A v ≡ true → s.order k ≤ s.order (s.parent v)

-- the new orders: from the clock on, and below the new clock
pub record NewOrders (s : State) (A : ℕ → Bool) (o : ℕ → ℕ) (c : ℕ) : Type 0 where
  pub from_clock : (v : ℕ) → A v ≡ true → s.clock ≤ o v
  pub to_clock : (v : ℕ) → A v ≡ true → o v < c
  pub clock_grows : s.clock ≤ c

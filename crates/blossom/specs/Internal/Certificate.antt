-- The certificate that a matching cannot be enlarged, which the frozen vertices make up. Here `label` says whether a vertex is frozen as an
-- even or as an odd one; a vertex that is not frozen is free.
use Rattle.std.specs.Prelude.{ℕ, ◌<◌, ◌≡◌, Bool, true, false, ◌||◌, eqb}
use Rattle.ring.proofs.Cases.{three}
use Rattle.blossom.specs.Internal.Labels.{Label, Free, Even, Odd, odd?, free?, frozen?}
use Rattle.blossom.specs.Internal.Rows.{Mates}

-- `even_free`, `even_even`: an even vertex is adjacent to no free one, and to no even one of another base. The other fields: the even
-- vertices of one base are matched to each other, but for the base; this is exposed or matched to an odd vertex; the odd vertices are
-- matched to even ones, and the free ones to each other.
pub record Certificate (adj : ℕ → ℕ → Bool) (M : ℕ → ℕ) (label : ℕ → Label) (base : ℕ → ℕ) : Type 0 where
  pub even_free : (x y : ℕ) → label x ≡ Even → label y ≡ Free → adj x y ≡ false
  pub even_even : (x y : ℕ) → label x ≡ Even → label y ≡ Even → adj x y ≡ true → base x ≡ base y
  pub inner_mate : (z : ℕ) → label z ≡ Even → eqb (base z) z ≡ false
      → three (label (M z)) (base (M z)) (eqb (M z) z) ≡ three Even (base z) false
  pub base_mate : (z : ℕ) → label z ≡ Even → base z ≡ z → (eqb (M z) z || odd? (label (M z))) ≡ true
  pub odd_mate : (z : ℕ) → label z ≡ Odd → label (M z) ≡ Even
  pub free_mate : (z : ℕ) → label z ≡ Free → label (M z) ≡ Free
  pub none_frozen : (z : ℕ) → frozen? (label z) ≡ false

-- what holds between two searches: every exposed vertex below n is frozen
pub record BetweenSearches (adj : ℕ → ℕ → Bool) (M : ℕ → ℕ) (label : ℕ → Label) (base : ℕ → ℕ) (n : ℕ) : Type 0 where
  pub mates : Mates adj M
  pub certificate : Certificate adj M label base
  pub exposed_frozen : (z : ℕ) → z < n → M z ≡ z → free? (label z) ≡ false

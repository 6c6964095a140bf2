-- What a search in progress says of its vertices.
use Prim.Native.Nat.{ℕ, ◌<◌, ◌≤◌}
use mathlib.Core.Path.{◌≡◌, refl}
use mathlib.Core.Bool.{Bool, true, false, ◌||◌}
use mathlib.Core.List.{List}
use native.Mathlib.Omega.{arith}
use lib.Dec.{eqb, ltb}
use lib.ListN.{length, get_or}
use Rattle.ring.specs.declared.requests.Request.{Request}
use Rattle.ring.proofs.Counting.{count, count_insert, count_le, count_true}
use Rattle.blossom.specs.Internal.Labels.{Label, Free, Even, Odd, even?, frozen?}
use Rattle.blossom.specs.Internal.State.{State}
use Rattle.blossom.specs.Internal.Searches.{Searching}
use Rattle.blossom.proofs.LabelLaws.{is_free, is_even, is_odd, is_frozen, label_case}
use Rattle.matching.specs.declared.labels.VertexLabel.{VertexLabel}
use Rattle.matching.specs.declared.labels.VertexLabel.TheVariants as kind
use Rattle.matching.specs.declared.matchings.Search.{Search}
use Rattle.matching.specs.Internal.Model.{entry, label_of}
use Rattle.matching.specs.Internal.Search.{Stands, Standing}
use Rattle.matching.proofs.AdjacencyLaws.{mates_inside}
use Rattle.matching.proofs.ModelLaws.{entry_inside, label_at_inside, not_free_inside}

-- a set of vertices below m that lacks one has fewer than m
pub count_room : (p : ℕ → Bool) (z m : ℕ) → z < m → p z ≡ false → count p m < m
count_room p z m h e = omega (arith, count_insert p z m h e, count_le (λ w. eqb w z || p w) (λ w. true) m (λ w l i. refl), count_true m)

pub entry_outside : (m : ℕ) (l : List ℕ) (z : ℕ) → ltb z m ≡ false → entry m l z ≡ z
unfolding entry
entry_outside m l z e = cc

-- a mate is a request
pub mate_inside : (R : List Request) (r : ℕ) (s : Search) (rows : List (List ℕ)) → Standing R r s rows
    → (z : ℕ) → z < length R → get_or s.mates z 0 < length R
mate_inside R r s rows T z h =
    rw (entry_inside (length R) s.mates z h) at (mates_inside R (entry (length R) s.mates) T.between.mates z h)

module _ (R : List Request) (s : Search) (rows : List (List ℕ)) (state : State) (S : Stands R s rows state) where
  pub even_inside : (z : ℕ) → state.label z ≡ Even → z < length R
  even_inside z e = not_free_inside (length R) s.labels z (cc (S.label_is z))

  pub odd_inside : (z : ℕ) → state.label z ≡ Odd → z < length R
  odd_inside z e = not_free_inside (length R) s.labels z (cc (S.label_is z))

  -- the label of a vertex below m, as the array has it
  pub label_told : (z : ℕ) (n : VertexLabel) → z < length R → get_or s.labels z kind.Free ≡ n → state.label z ≡ label_of n
  label_told z n h e = cc (S.label_is z, label_at_inside (length R) s.labels z h)

  -- there is room in the queue as long as a vertex is not even
  pub clock_room : (z : ℕ) → z < length R → even? (state.label z) ≡ false → s.clock < length R
  clock_room z h e = omega (arith, S.clock_counts, count_room (λ w. even? (state.label w)) z (length R) h e)

  pub clock_most : s.clock ≤ length R
  clock_most =
      omega (arith, S.clock_counts, count_le (λ w. even? (state.label w)) (λ w. true) (length R) (λ w l i. refl), count_true (length R))

-- a vertex that no earlier search froze
pub unfrozen : (adj : ℕ → ℕ → Bool) (M : ℕ → ℕ) (label : ℕ → Label) (base : ℕ → ℕ) (r : ℕ) (state : State) (done : ℕ → Bool)
    → Searching adj M label base r state done → (z : ℕ) → frozen? (state.label z) ≡ false → label z ≡ Free
unfrozen adj M label base r state done S z e = let l = S.frozen_label z in elim (label_case (label z)) [
  | is_free f ↦ f
  | is_even f ↦ cc
  | is_odd f ↦ cc
  | is_frozen f ↦ cc
]

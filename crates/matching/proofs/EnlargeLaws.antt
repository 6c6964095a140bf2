-- The arrays after the matching has been enlarged are settled: the root is covered.
use Prim.Native.Nat.{ℕ, suc, ◌<◌, ◌≤◌}
use mathlib.Core.Path.{◌≡◌, subst}
use mathlib.Core.Bool.{Bool, true}
use mathlib.Core.List.{List, []}
use native.Mathlib.Omega.{arith}
use lib.ListN.{length, get_or, set, length-set}
use Rattle.ring.specs.declared.requests.Request.{Request}
use Rattle.ring.proofs.Cases.{Apart, same, different, test}
use Rattle.blossom.specs.Internal.Labels.{Free, Even}
use Rattle.blossom.specs.Internal.Rows.{Symmetric}
use Rattle.blossom.specs.Internal.Certificate.{BetweenSearches}
use Rattle.blossom.specs.Internal.Searches.{Searching}
use Rattle.blossom.proofs.LabelLaws.{apart_by_even}
use Rattle.blossom.proofs.RowLaws.{paired}
use Rattle.blossom.proofs.Augment.{augments}
use Rattle.matching.specs.declared.matchings.Search.{Search}
use Rattle.matching.specs.Internal.Adjacency.{adjacent}
use Rattle.matching.specs.Internal.Model.{entry}
use Rattle.matching.specs.Internal.Search.{Standing, Settled}
use Rattle.matching.specs.Internal.Steps.{enlarged_arrays}
use Rattle.matching.proofs.ModelLaws.{entry_set}
use Rattle.matching.proofs.StandingLaws.{even_inside}

-- functions that agree everywhere are equal
pub agree : (f g : ℕ → ℕ) → ((z : ℕ) → f z ≡ g z) → f ≡ g
agree f g e = λ i z. e z i

-- two stores, as the paired row has them
pub paired_entry : (m : ℕ) (l : List ℕ) (x y z : ℕ) → m ≤ length l → x < m → y < m → Apart x y
    → entry m (set (set l x y) y x) z ≡ paired (entry m l) x y z
paired_entry m l x y z h hx hy d =
    let e₁ = entry_set m l x y z hx h in
    let e₂ = entry_set m (set l x y) y x z hy (simp length-set h) in
    elim (test z x) [
      | same e f ↦ cc d.left
      | different e ↦ cc
    ]

module _ (R : List Request) (symmetric : Symmetric (adjacent R)) (r : ℕ) (s : Search) (rows : List (List ℕ)) (T : Standing R r s rows)
    (scanned : ℕ → Bool)
    (S : Searching (adjacent R) (entry (length R) s.mates) T.frozen_label T.frozen_base r T.state scanned)
    (x y : ℕ) (ex : T.state.label x ≡ Even) (hy : y < length R) (fy : T.state.label y ≡ Free)
    (my : entry (length R) s.mates y ≡ y) (axy : adjacent R x y ≡ true) where
  abbrev m : ℕ
  m = length R

  x_inside : x < m
  x_inside = even_inside R s rows T.state T.stands x ex

  mates_after : (z : ℕ) → paired (T.state.row x) x y z ≡ entry m (set (set (get_or rows x []) x y) y x) z
  mates_after z =
      let w = T.square.wide x x_inside in
      cc (
        paired_entry m (get_or rows x []) x y z (omega (arith, T.sized.few)) x_inside hy (apart_by_even T.state.label x y (cc) (cc)),
        T.stands.row_is x z ex,
      )

  pub enlarge_settled : Settled R (enlarged_arrays s rows x y) (suc r)
  enlarge_settled = record {
    sized = record {
      few = T.sized.few;
      mates = simp length-set (T.square.wide x x_inside);
      labels = T.sized.labels;
      bases = T.sized.bases;
      parents = T.sized.parents;
      queue = T.sized.queue;
      bases_inside = T.sized.bases_inside;
    };
    label = T.frozen_label;
    base = T.state.base;
    label_is = T.frozen_label_is;
    base_is = T.stands.base_is;
    between = subst (λ (f : ℕ → ℕ). BetweenSearches (adjacent R) f T.frozen_label T.state.base (suc r))
        (agree (paired (T.state.row x) x y) (entry m (set (set (get_or rows x []) x y) y x)) mates_after)
        (augments (adjacent R) symmetric (entry m s.mates) T.frozen_label T.frozen_base r T.between T.state scanned S x y ex
        fy my axy);
  }

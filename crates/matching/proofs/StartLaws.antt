-- The greedy start keeps a matching, and with all labels free it is what a first search begins from.
use Prim.Native.Nat.{ℕ, ◌<◌, ◌≤◌}
use mathlib.Core.Path.{◌≡◌, refl, sym, ap, ◌∙◌}
use mathlib.Core.Bool.{Bool, true}
use mathlib.Core.List.{List}
use native.Mathlib.Omega.{arith}
use lib.Dec.{eqb}
use lib.ListN.{length, get_or, set, length-set, replicate, get_or-replicate, length-replicate}
use Rattle.ring.specs.declared.requests.Request.{Request}
use Rattle.ring.specs.Requests.{requests_of}
use Rattle.ring.proofs.Cases.{same, different, eqb_refl, test, less, not_less, compare}
use Rattle.sets.specs.Sets.{has}
use Rattle.neighbours.specs.Neighbours.{Neighbours}
use Rattle.blossom.specs.Internal.Labels.{Free}
use Rattle.blossom.specs.Internal.Rows.{Symmetric, Mates}
use Rattle.blossom.proofs.RowLaws.{paired, paired_is_row}
use Rattle.blossom.proofs.Search.{between_start}
use Rattle.matching.specs.declared.labels.VertexLabel.{VertexLabel}
use Rattle.matching.specs.declared.labels.VertexLabel.TheVariants as kind
use Rattle.matching.specs.declared.matchings.Search.{Search}
use Rattle.matching.specs.Internal.Adjacency.{adjacent}
use Rattle.matching.specs.Internal.Model.{entry, settled_at}
use Rattle.matching.specs.Internal.Search.{Settled}
use Rattle.matching.specs.Internal.Start.{Identity, Matched, Partner}
use Rattle.matching.proofs.AdjacencyLaws.{adjacent_symmetric}
use Rattle.matching.proofs.AroundLaws.{around_some}
use Rattle.matching.proofs.ModelLaws.{entry_inside, entry_set}

pub identity_entry : (m : ℕ) (l : List ℕ) → m ≤ 512 → Identity l → (z : ℕ) → entry m l z ≡ z
unfolding entry
identity_entry m l few own z = elim (compare z m) [
  | less h e ↦ cc (own.own z (omega arith))
  | not_less h e ↦ cc
]

-- mates that agree everywhere
pub mates_agree : (adj : ℕ → ℕ → Bool) (M N : ℕ → ℕ) → ((z : ℕ) → N z ≡ M z) → Mates adj M → Mates adj N
mates_agree adj M N e w z = cc (e z, e (M z), w z)

pub mates_exposed : (adj : ℕ → ℕ → Bool) → Mates adj (λ z. z)
mates_exposed adj z = cc (eqb_refl z)

-- two exposed vertices that are adjacent are paired
pub mates_paired : (adj : ℕ → ℕ → Bool) → Symmetric adj → (M : ℕ → ℕ) (i j : ℕ) → Mates adj M → M i ≡ i → M j ≡ j → (j ≡ i → ⊥)
    → adj i j ≡ true → Mates adj (paired M j i)
mates_paired adj symmetric M i j w ei ej apart fits = elim (test j i) [
  | same s e ↦ absurd (apart s)
  | different d ↦
      let row = paired_is_row adj symmetric M (λ z. eqb (M z) z) (λ z. cc (w z)) j i ej ei d (cc (symmetric i j)) in
      λ z. cc (row z)
]

-- an exposed number of the set, other than i
pub partner_found : (R : List Request) (mates around : List ℕ) (i j : ℕ) → Neighbours R i around → i < length R → j < length R
    → has around j ≡ true → (j ≡ i → ⊥) → get_or mates j 0 ≡ j → Partner R mates i j
partner_found R mates around i j N k l member apart exposed = record {
  inside = l;
  exposed = exposed;
  apart = apart;
  fits = around_some R i around j N k l (λ e. apart (sym e)) member;
}

-- two stores pair i with its partner
pub matched_paired : (ends mates : List ℕ) (i j : ℕ) → Matched (requests_of ends) mates → i < length (requests_of ends)
    → get_or mates i 0 ≡ i
    → Partner (requests_of ends) mates i j → Matched (requests_of ends) (set (set mates i j) j i)
matched_paired ends mates i j w inside exposed p =
    let R = requests_of ends in
    let M = entry (length R) mates in
    let room : length R ≤ length mates = omega (arith, w.few, w.places) in
    let still : length R ≤ length (set mates i j) = simp length-set room in
    let two-stores : (z : ℕ) → entry (length R) (set (set mates i j) j i) z ≡ paired M j i z =
    λ z. cc (entry_set (length R) (set mates i j) j i z p.inside still, entry_set (length R) mates i j z inside room) in
    let i-exposed : M i ≡ i = entry_inside (length R) mates i inside ∙ exposed in
    let j-exposed : M j ≡ j = entry_inside (length R) mates j p.inside ∙ p.exposed in
    record {
      few = w.few;
      places = simp length-set w.places;
      mates_are =
          mates_agree (adjacent R) (paired M j i) _ two-stores
          (mates_paired (adjacent R) (adjacent_symmetric ends) M i j w.mates_are i-exposed j-exposed p.apart p.fits);
    }

pub matched_identity : (R : List Request) (mates : List ℕ) → length R ≤ 512 → Identity mates → Matched R mates
matched_identity R mates few own = record {
  few = few;
  places = own.places;
  mates_are = mates_agree (adjacent R) (λ z. z) _ (identity_entry (length R) mates few own) (mates_exposed (adjacent R));
}

-- free labels stand for free vertices
zeros_free : (m z : ℕ) → m ≤ 512 → Free ≡ settled_at m (replicate 512 kind.Free) z
unfolding settled_at
zeros_free m z few = elim (compare z m) [
  | less h e ↦ cc (get_or-replicate {A = VertexLabel} 512 z kind.Free kind.Free (omega arith))
  | not_less h e ↦ cc
]

pub start_settled : (R : List Request) (s : Search) → Matched R s.mates → Identity s.bases → s.labels ≡ replicate 512 kind.Free
    → length s.parents ≡ 512 → length s.queue ≡ 512 → Settled R s 0
start_settled R s w own free parents queue = record {
  sized = record {
    few = w.few;
    mates = w.places;
    labels = ap length free ∙ length-replicate {A = VertexLabel} 512 kind.Free;
    bases = own.places;
    parents = parents;
    queue = queue;
    bases_inside = λ z h. omega (arith, own.own z (omega (arith, w.few)));
  };
  label = λ z. Free;
  base = entry (length R) s.bases;
  label_is = λ z. rw free (zeros_free (length R) z w.few);
  base_is = λ z. refl;
  between = between_start (adjacent R) (entry (length R) s.mates) (entry (length R) s.bases) w.mates_are;
}

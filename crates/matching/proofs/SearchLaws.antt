-- How a search begins and ends.
use Prim.Native.Nat.{ℕ, ◌+◌, ◌<◌, ◌≤◌}
use mathlib.Core.Path.{◌≡◌, refl, sym, ap, ◌∙◌}
use mathlib.Core.Bool.{true, false, not, cond, ◌||◌}
use mathlib.Core.List.{List}
use native.Mathlib.Numerals.{add-one}
use native.Mathlib.Omega.{arith}
use lib.Dec.{eqb}
use lib.ListN.{length, get_or, set, length-set}
use lib.Seq.{get_or-set_same, get_or-set_other}
use borrow.Author.Tests.{eqb-false, lt-ltb}
use Rattle.ring.specs.declared.requests.Request.{Request}
use Rattle.ring.proofs.Cases.{yes, no, is, same, different, test, less, not_less, compare, eqb_refl, impossible}
use Rattle.ring.proofs.Counting.{bit, sum_ext, sum_zero, count_insert}
use Rattle.blossom.specs.Internal.Labels.{Free, Even, Odd, Frozen, even?, odd?, free?}
use Rattle.blossom.specs.Internal.Rows.{Symmetric}
use Rattle.blossom.specs.Internal.State.{State}
use Rattle.blossom.proofs.Start.{IsStart}
use Rattle.blossom.proofs.Search.{between_skip, search_begin}
use Rattle.blossom.proofs.Freeze.{frozen_labels, freezes}
use Rattle.matching.specs.declared.labels.VertexLabel.{VertexLabel}
use Rattle.matching.specs.declared.labels.VertexLabel.TheVariants as kind
use Rattle.matching.specs.declared.matchings.Search.{Search}
use Rattle.matching.specs.Maximum.{is_frozen}
use Rattle.matching.specs.Internal.Adjacency.{adjacent}
use Rattle.matching.specs.Internal.Labelling.{unlabelled, frozen, Relabelled}
use Rattle.matching.specs.Internal.Model.{entry, row_at, label_of, label_at, settled_of, settled_at, among}
use Rattle.matching.specs.Internal.Search.{Square, Settled, Standing, SearchAt}
use Rattle.matching.specs.Internal.Progress.{Begun, begun_arrays, with_labels}
use Rattle.matching.proofs.ModelLaws.{entry_inside, entry_set, label_at_set, settled_at_set, among_add}
use Rattle.matching.proofs.RowLaws.{square_set}
use Rattle.matching.proofs.GrowLaws.{row_set}

-- the labels when a search begins
begun_label : (l : VertexLabel) → label_of (unlabelled l) ≡ cond (not (free? (settled_of l))) Frozen Free
begun_label kind.Free = refl
begun_label kind.Even = refl
begun_label kind.Odd = refl
begun_label kind.FrozenEven = refl
begun_label kind.FrozenOdd = refl

pub begun_settled : (l : VertexLabel) → settled_of (unlabelled l) ≡ settled_of l
begun_settled kind.Free = refl
begun_settled kind.Even = refl
begun_settled kind.Odd = refl
begun_settled kind.FrozenEven = refl
begun_settled kind.FrozenOdd = refl

-- and when it ends
ended_label : (l : VertexLabel) → settled_of (frozen l) ≡ cond (even? (label_of l)) Even (cond (odd? (label_of l)) Odd (settled_of l))
ended_label kind.Free = refl
ended_label kind.Even = refl
ended_label kind.Odd = refl
ended_label kind.FrozenEven = refl
ended_label kind.FrozenOdd = refl

-- a label that is not for good is free between searches, and one for good is not
open_settled : (l : VertexLabel) → is_frozen l ≡ false → settled_of l ≡ Free
open_settled kind.Free e = refl
open_settled kind.Even e = refl
open_settled kind.Odd e = refl
open_settled kind.FrozenEven e = cc
open_settled kind.FrozenOdd e = cc

frozen_settled : (l : VertexLabel) → is_frozen l ≡ true → free? (settled_of l) ≡ false
frozen_settled kind.Free e = cc
frozen_settled kind.Even e = cc
frozen_settled kind.Odd e = cc
frozen_settled kind.FrozenEven e = refl
frozen_settled kind.FrozenOdd e = refl

module _ (R : List Request) (s : Search) (r : ℕ) (S : Settled R s r) where
  abbrev m : ℕ
  m = length R

  abbrev M : ℕ → ℕ
  M = entry (length R) s.mates

  -- r is covered, or frozen: no search
  pub settled_skip : (r < length R) → (get_or s.mates r 0 ≡ r → is_frozen (get_or s.labels r kind.Free) ≡ true) → Settled R s (r + 1)
  unfolding settled_at
  settled_skip l f = record {
    sized = S.sized;
    label = S.label;
    base = S.base;
    label_is = S.label_is;
    base_is = S.base_is;
    between = rw add-one (between_skip (adjacent R) M S.label S.base r S.between (λ e.
        let n = frozen_settled (get_or s.labels r kind.Free) (f (sym (entry_inside m s.mates r l) ∙ e)) in
        cc (S.label_is r, lt-ltb r m l)));
  }

  module _ (rows : List (List ℕ)) (Q : Square (length R) rows) (l : r < length R) (er : get_or s.mates r 0 ≡ r)
      (lr : is_frozen (get_or s.labels r kind.Free) ≡ false)
      (labels : List VertexLabel) (L : Relabelled (length R) s.labels labels unlabelled) where
    abbrev t : Search
    t = begun_arrays s r labels

    abbrev rows' : List (List ℕ)
    rows' = set rows r s.mates

    labels_size : m ≤ length labels
    labels_size = omega (arith, L.same_length, S.sized.labels, S.sized.few)

    abbrev state : State
    state = record {
      label = label_at (length R) (set labels r kind.Even);
      base = entry (length R) (set s.bases r r);
      parent = entry (length R) s.parents;
      order = λ z. 0;
      row = row_at (length R) (set rows r s.mates);
      clock = 1;
    }

    root_free : S.label r ≡ Free
    unfolding settled_at
    root_free = cc (S.label_is r, lt-ltb r m l, open_settled (get_or s.labels r kind.Free) lr)

    label_start : (z : ℕ) → label_at m labels z ≡ cond (not (free? (S.label z))) Frozen Free
    unfolding label_at settled_at
    label_start z = elim (compare z m) [
      | less h e ↦ cc (S.label_is z, L.at z h, begun_label (get_or s.labels z kind.Free))
      | not_less h e ↦ cc (S.label_is z)
    ]

    settled_start : (z : ℕ) → settled_at m labels z ≡ S.label z
    unfolding settled_at
    settled_start z = elim (compare z m) [
      | less h e ↦ cc (S.label_is z, L.at z h, begun_settled (get_or s.labels z kind.Free))
      | not_less h e ↦ cc (S.label_is z)
    ]

    start_labels : (z : ℕ) → state.label z ≡ cond (eqb z r) Even (cond (not (free? (S.label z))) Frozen Free)
    start_labels z = cc (label_at_set m labels r kind.Even z l labels_size, label_start z)

    start_even : (z : ℕ) → even? (state.label z) ≡ (eqb z r || false)
    start_even z = let e = start_labels z in elim (is (eqb z r)) [
      | yes f ↦ cc
      | no f ↦ elim (is (free? (S.label z))) [ yes g ↦ cc | no g ↦ cc ]
    ]

    starts : IsStart M (λ z. not (free? (S.label z))) r state
    starts = record {
      labels = start_labels;
      root_base = cc (entry_set m s.bases r r r l (omega (arith, S.sized.bases, S.sized.few)), eqb_refl r);
      root_row = λ z. cc (row_set m rows r s.mates (omega (arith, Q.many, l)) r z, eqb_refl r);
      root_order = omega arith;
    }

    pub search_begins : SearchAt R r (begun_arrays s r labels) (set rows r s.mates) 0
    search_begins = record {
      standing = record {
        sized = record {
          few = S.sized.few;
          mates = S.sized.mates;
          labels = length-set labels r kind.Even ∙ (L.same_length ∙ S.sized.labels);
          bases = length-set s.bases r r ∙ S.sized.bases;
          parents = S.sized.parents;
          queue = length-set s.queue 0 r ∙ S.sized.queue;
          bases_inside = λ z h. elim (test z r) [
            | same e f ↦
                let b : get_or (set s.bases r r) z 0 ≡ r = cc (get_or-set_same s.bases r r 0
                (omega (arith, S.sized.bases, S.sized.few))) in
                omega arith
            | different e ↦ omega (arith, get_or-set_other s.bases r z r 0 (eqb-false z r e.left), S.sized.bases_inside z h)
          ];
        };
        square = square_set m rows r s.mates Q l S.sized.mates;
        frozen_label = S.label;
        frozen_base = S.base;
        frozen_label_is = λ z. let e = settled_at_set m labels r kind.Even z l labels_size in elim (test z r) [
          | same f g ↦ cc (root_free)
          | different f ↦ cc (settled_start z)
        ];
        between = S.between;
        state = state;
        stands = record {
          label_is = λ z. refl;
          base_is = λ z. refl;
          parent_is = λ z o. refl;
          row_is = λ x z e. refl;
          clock_is = refl;
          clock_counts = omega (
            arith,
            count_insert (λ z. false) r m l refl,
            sum_zero m,
            sum_ext (λ z. bit (even? (state.label z))) (λ z. bit (eqb z r || false)) m (λ z h. ap bit (start_even z)),
          );
          queued = λ z. start_even z ∙ sym (among_add s.queue 0 r z (omega (arith, S.sized.queue)));
        };
      };
      scanned = λ z. false;
      scanned_is = λ z. refl;
      within = omega arith;
      searching =
          search_begin (adjacent R) M S.label S.base r S.between (entry_inside m s.mates r l ∙ er) root_free state starts
          (λ z f. let e = entry_set m s.bases r r z l (omega (arith, S.sized.bases, S.sized.few)) in elim (test z r) [
            | same g i ↦ impossible (cc (root_free))
            | different g ↦ cc (S.base_is z)
          ]);
    }

pub search_begun : {R : List Request} {s t : Search} {r m : ℕ} {rows after : List (List ℕ)} → Settled R s r → Square m rows → m ≡ length R
    → r < m → get_or s.mates r 0 ≡ r → is_frozen (get_or s.labels r kind.Free) ≡ false → Begun m r s rows t after
    → SearchAt R r t after 0
search_begun S Q number l exposed free B =
    rw (B.row, B.arrays)
    (search_begins _ _ _ S _ (rw number at Q) (rw number at l) exposed free B.free (rw number at B.unlabelling))

module _ (R : List Request) (symmetric : Symmetric (adjacent R)) (r : ℕ) (s : Search) (rows : List (List ℕ)) (h : ℕ)
    (at : SearchAt R r s rows h)
    (over : s.clock ≤ h) (labels : List VertexLabel) (L : Relabelled (length R) s.labels labels frozen) where
  abbrev T : Standing R r s rows
  T = at.standing

  all_scanned : (x : ℕ) → T.state.label x ≡ Even → at.scanned x ≡ true
  all_scanned x e =
      let n : h ≡ s.clock = omega (arith, at.within) in
      at.scanned_is x ∙ (ap (λ (k : ℕ). among s.queue k x) n ∙ (sym (T.stands.queued x) ∙ ap even? e))

  label_end : (z : ℕ) → frozen_labels T.state T.frozen_label z ≡ settled_at (length R) labels z
  unfolding settled_at label_at
  label_end z = elim (compare z (length R)) [
    | less l e ↦ cc (T.stands.label_is z, T.frozen_label_is z, L.at z l, ended_label (get_or s.labels z kind.Free))
    | not_less l e ↦ cc (T.stands.label_is z, T.frozen_label_is z)
  ]

  pub search_ends : Settled R (with_labels s labels) (r + 1)
  search_ends = record {
    sized = record {
      few = T.sized.few;
      mates = T.sized.mates;
      labels = L.same_length ∙ T.sized.labels;
      bases = T.sized.bases;
      parents = T.sized.parents;
      queue = T.sized.queue;
      bases_inside = T.sized.bases_inside;
    };
    label = frozen_labels T.state T.frozen_label;
    base = T.state.base;
    label_is = label_end;
    base_is = T.stands.base_is;
    between =
        rw add-one
        (freezes (adjacent R) symmetric (entry (length R) s.mates) T.frozen_label T.frozen_base r T.between T.state
        at.scanned at.searching all_scanned);
  }

-- with other labels, parents and queue
abbrev pub with_rest : Search → List VertexLabel → List ℕ → List ℕ → ℕ → Search
with_rest s labels parents queue clock =
    record { mates = s.mates; labels = labels; bases = s.bases; parents = parents; queue = queue; clock = clock }

-- between searches the parents and the queue say nothing, and of the labels only those of frozen vertices do
pub settled_alike : (R : List Request) (s : Search) (labels : List VertexLabel) (parents queue : List ℕ) (clock n : ℕ) → length labels ≡ 512
    → length parents ≡ 512 → length queue ≡ 512
    → ((z : ℕ) → settled_at (length R) s.labels z ≡ settled_at (length R) labels z) → Settled R s n
    → Settled R (with_rest s labels parents queue clock) n
settled_alike R s labels parents queue clock n l p q alike S = record {
  sized = record {
    few = S.sized.few;
    mates = S.sized.mates;
    labels = l;
    bases = S.sized.bases;
    parents = p;
    queue = q;
    bases_inside = S.sized.bases_inside;
  };
  label = S.label;
  base = S.base;
  label_is = λ z. S.label_is z ∙ alike z;
  base_is = S.base_is;
  between = S.between;
}

pub rested : (R : List Request) (s : Search) (parents queue : List ℕ) (clock n : ℕ) → length parents ≡ 512 → length queue ≡ 512
    → Settled R s n
    → Settled R (with_rest s s.labels parents queue clock) n
rested R s parents queue clock n p q S = settled_alike R s s.labels parents queue clock n S.sized.labels p q (λ z. refl) S

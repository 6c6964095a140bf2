-- The arrays after a blossom stand for the shrunk state.
use Prim.Native.Nat.{ℕ, suc, ◌+◌, ◌<◌, ◌≤◌}
use mathlib.Core.Path.{◌≡◌, refl, sym, ap, ◌∙◌}
use mathlib.Core.Bool.{Bool, true, not, cond, ◌&&◌, ◌||◌}
use mathlib.Core.List.{List, []}
use native.Mathlib.Numerals.{add-one}
use native.Mathlib.Omega.{arith}
use lib.ListN.{length, get_or}
use borrow.Author.Tests.{lt-ltb}
use Rattle.ring.specs.declared.requests.Request.{Request}
use Rattle.ring.proofs.Cases.{yes, no, is, same, different, test, less, not_less, compare, impossible}
use Rattle.ring.proofs.Counting.{count, bit, sum_ext, sum_add, count_le, count_true, count_split}
use Rattle.blossom.specs.Internal.Labels.{Even, Odd, even?}
use Rattle.blossom.specs.Internal.Rows.{Symmetric}
use Rattle.blossom.specs.Internal.State.{State, below, Invariant}
use Rattle.blossom.proofs.LabelLaws.{is_free, is_even, is_odd, is_frozen, label_case}
use Rattle.blossom.proofs.Shrunk.{merged, shrunk, NewOrders}
use Rattle.blossom.proofs.Cycle.{cycle, cycle_odd}
use Rattle.blossom.proofs.Scanning.{scan_blossom}
use Rattle.matching.specs.declared.labels.VertexLabel.{VertexLabel}
use Rattle.matching.specs.declared.labels.VertexLabel.TheVariants as kind
use Rattle.matching.specs.declared.climbs.Marks.{Marks}
use Rattle.matching.specs.declared.climbs.Side.{Side}
use Rattle.matching.specs.declared.matchings.Search.{Search}
use Rattle.matching.specs.Internal.Adjacency.{adjacent}
use Rattle.matching.specs.Internal.Model.{entry, row_at, label_at, settled_at, among}
use Rattle.matching.specs.Internal.Rows.{cell, Absorbed}
use Rattle.matching.specs.Internal.Search.{Square, Stands, Standing, ScanAt}
use Rattle.matching.specs.Internal.Steps.{on_cycle, joins_blossom, new_base, with_bases, with_queue, Promoted}
use Rattle.matching.proofs.ModelLaws.{entry_inside}
use Rattle.matching.proofs.StandingLaws.{count_room, even_inside, odd_inside, entry_outside, unfrozen}
use Rattle.matching.proofs.ClosingLaws.{Closed}
use Rattle.matching.proofs.LabellingLaws.{even_only}
use Rattle.matching.proofs.CycleLaws.{on_cycle_lem, side_first, side_second}
use Rattle.matching.proofs.CycleLaws.{absorbed_inside, absorbed_outside, label_inside}

-- a set with a member below m is not empty
count_some : (p : ℕ → Bool) (z m : ℕ) → z < m → p z ≡ true → 0 < count p m
count_some p z m h e = omega (arith, count_split p m, count_room (λ w. not (p w)) z m h (cc))

-- the same entries of the queue
pub among_same : (q q' : List ℕ) (k : ℕ) → ((i : ℕ) → i < k → get_or q' i 0 ≡ get_or q i 0) → (z : ℕ) → among q' k z ≡ among q k z
among_same q q' Prim.Native.Nat.zero e z = refl
among_same q q' (suc k) e z = cc (e k (omega arith), among_same q q' k (λ i h. e i (omega arith)) z)

module _ (R : List Request) (symmetric : Symmetric (adjacent R)) (r : ℕ) (s : Search) (rows : List (List ℕ)) (h x y : ℕ)
    {k : ℕ} {found : Marks} (C : Closed R r s rows h x y k found) where
  abbrev m : ℕ
  m = length R

  abbrev T : Standing R r s rows
  T = C.at.standing

  abbrev state : State
  state = C.at.standing.state

  abbrev sides : List Side
  sides = found.sides

  abbrev M : ℕ → ℕ
  M = entry (length R) s.mates

  abbrev A : ℕ → Bool
  A = cycle M state x y

  abbrev I : Invariant (adjacent R) M r state
  I = C.at.scanning.search.invariant

  x_even : state.label x ≡ Even
  x_even = C.at.scanning.partly.x_even

  pub on : (v : ℕ) → on_cycle m sides v ≡ A v
  on = on_cycle_lem R r s rows state T.stands I x y sides C.right

  odd_on : (v : ℕ) → A v ≡ true → state.label v ≡ Odd
  odd_on v a = cycle_odd M state x y v a

  -- the even vertices and those of the cycle, counted
  both : (z : ℕ) → bit (A z || even? (state.label z)) ≡ bit (A z) + bit (even? (state.label z))
  both z = elim (is (A z)) [
    | yes e ↦ cc (odd_on z e)
    | no e ↦ elim (is (even? (state.label z))) [ yes f ↦ cc | no f ↦ cc ]
  ]

  count_both : count (λ z. A z || even? (state.label z)) m ≡ count (on_cycle m sides) m + s.clock
  count_both = omega (
    arith,
    T.stands.clock_counts,
    sum_ext (λ z. bit (A z || even? (state.label z))) (λ z. bit (A z) + bit (even? (state.label z))) m (λ z l. both z),
    sum_add (λ z. bit (A z)) (λ z. bit (even? (state.label z))) m,
    sum_ext (λ z. bit (on_cycle m sides z)) (λ z. bit (A z)) m (λ z l. ap bit (on z)),
  )

  pub cycle_room : s.clock + count (on_cycle m sides) m ≤ 512
  cycle_room =
      omega (arith, T.sized.few, count_both, count_le (λ z. A z || even? (state.label z)) (λ z. true) m (λ z l e. refl), count_true m)

  base_inside : (z : ℕ) → z < m → state.base z < m
  base_inside z l = rw (T.stands.base_is z ∙ entry_inside m s.bases z l) (T.sized.bases_inside z l)

  -- the class of the blossom
  pub joins_is : (z : ℕ) → z < m
      → joins_blossom s found z
      ≡ (A z || even? (state.label z) && A (M (state.base z)))
  unfolding joins_blossom
  joins_is z l =
      let b = T.stands.base_is z ∙ entry_inside m s.bases z l in
      cc (C.cycle_is z l, C.on_is (state.base z) (base_inside z l), T.stands.queued z)

  module _ (rows' : List (List ℕ)) (square : Square (length R) rows')
      (absorbed : Absorbed m rows rows' s.labels s.mates found.sides x y)
      (bases : List ℕ) (bases_length : length bases ≡ 512)
      (based : (z : ℕ) → z < m → get_or bases z 0 ≡ new_base s found k z)
      (labels' : List VertexLabel) (queue' : List ℕ) (clock' : ℕ)
      (P : Promoted m m found.sides s.labels s.queue s.clock labels' queue' clock') where
    abbrev t : Search
    t = with_queue (with_bases s bases) labels' queue' clock'

    abbrev p : ℕ → ℕ
    p v = cond (below M state v x) x y

    abbrev q : ℕ → ℕ
    q v = cond (below M state v x) y x

    abbrev after : State
    after = shrunk M state A p q k (λ v. s.clock) (s.clock + count (on_cycle m sides) m)

    k_even : state.label k ≡ Even
    k_even = cc C.walked.is_base

    k_inside : k < m
    k_inside = even_inside R s rows state T.stands k k_even

    label_after : (z : ℕ) → after.label z ≡ label_at m t.labels z
    unfolding label_at
    label_after z = let e = on z in let l = T.stands.label_is z in let g = P.label z in elim (is (A z)) [
      | yes f ↦ cc (lt-ltb z m (odd_inside R s rows state T.stands z (odd_on z f)))
      | no f ↦ cc
    ]

    settled_after : (z : ℕ) → T.frozen_label z ≡ settled_at m t.labels z
    unfolding settled_at
    settled_after z = let e = on z in let l = T.frozen_label_is z in let g = P.label z in elim (is (A z)) [
      | yes f ↦ cc (
        lt-ltb z m (odd_inside R s rows state T.stands z (odd_on z f)),
        unfrozen (adjacent R) M T.frozen_label T.frozen_base r state C.at.scanned C.at.scanning.search z (cc (odd_on z f)),
      )
      | no f ↦ cc
    ]

    base_after_lem : (z : ℕ) → after.base z ≡ entry m t.bases z
    unfolding new_base
    base_after_lem z = elim (compare z m) [
      | less l i ↦
          let g = based z l in let j = joins_is z l in let b = T.stands.base_is z ∙ entry_inside m s.bases z l in
          let n : entry m t.bases z ≡ get_or bases z 0 = entry_inside m bases z l in
          elim (test (state.base z) k) [
            | same e f ↦ elim (is (A z || even? (state.label z) && A (M (state.base z)))) [
              | yes u ↦ elim (is (merged M state A k z)) [ yes v ↦ cc | no v ↦ cc ]
              | no u ↦ elim (is (merged M state A k z)) [ yes v ↦ cc | no v ↦ cc ]
            ]
            | different e ↦ cc
          ]
      | not_less l i ↦
          let b = T.stands.base_is z ∙ entry_outside m s.bases z i in let n = entry_outside m t.bases z i in
          elim (label_case (state.label z)) [
            | is_free e ↦ cc
            | is_even e ↦ absurd (outside z l (even_inside R s rows state T.stands z e))
            | is_odd e ↦ absurd (outside z l (odd_inside R s rows state T.stands z e))
            | is_frozen e ↦ cc
          ]
    ]
      where
        outside : (v : ℕ) → m ≤ v → v < m → ⊥
        outside v l j = omega arith

    base_bound : (z : ℕ) → z < m → get_or t.bases z 0 < m
    base_bound z l = let n = entry_inside m t.bases z l in elim (is (merged M state A k z)) [
      | yes e ↦ let g : get_or t.bases z 0 ≡ k = cc (base_after_lem z) in omega (arith, k_inside)
      | no e ↦ let g : get_or t.bases z 0 ≡ state.base z = cc (base_after_lem z) in omega (arith, base_inside z l)
    ]

    cell_after : (a z : ℕ) → A a ≡ true → z < m → cell rows' a z ≡ after.row a z
    cell_after a z e l =
        let ha = odd_inside R s rows state T.stands a (odd_on a e) in
        elim (is (below M state a x)) [
          | yes f ↦ cc (
            absorbed.first a z ha l (side_first R r s rows state T.stands I x y sides C.right a ha e f),
            absorbed_inside R r s rows state T.stands I x y a z x_even C.even ha l,
          )
          | no f ↦ cc (
            absorbed.second a z ha l (side_second R r s rows state T.stands I x y sides C.right a ha e f),
            absorbed_inside R r s rows state T.stands I y x a z C.even x_even ha l,
          )
        ]

    row_after : (a z : ℕ) → after.label a ≡ Even → after.row a z ≡ row_at m rows' a z
    row_after a z e = elim (is (A a)) [
      | no f ↦
          let ea : state.label a ≡ Even = cc in
          let ha = even_inside R s rows state T.stands a ea in
          let n : get_or s.labels a kind.Free ≡ kind.Even =
          even_only (get_or s.labels a kind.Free) (cc (label_inside R r s rows state T.stands I a ha)) in
          cc (absorbed.kept a (omega (arith, T.sized.few)) n, T.stands.row_is a z ea)
      | yes f ↦ elim (compare z m) [
        | less l i ↦ cc (cell_after a z f l, entry_inside m (get_or rows' a []) z l)
        | not_less l i ↦
            let ha = odd_inside R s rows state T.stands a (odd_on a f) in
            let n = entry_outside m (get_or rows' a []) z i in
            elim (is (below M state a x)) [
              | yes g ↦ cc (absorbed_outside R r s rows state T.stands I x y a z x_even C.even ha i)
              | no g ↦ cc (absorbed_outside R r s rows state T.stands I y x a z C.even x_even ha i)
            ]
      ]
    ]

    even_after : (z : ℕ) → even? (after.label z) ≡ (A z || even? (state.label z))
    even_after z = elim (is (A z)) [ yes e ↦ cc | no e ↦ cc ]

    stands_after : Stands R t rows' after
    stands_after = record {
      label_is = label_after;
      base_is = base_after_lem;
      parent_is = λ z o. elim (is (A z)) [ yes e ↦ impossible (cc) | no e ↦ cc (T.stands.parent_is z (cc)) ];
      row_is = row_after;
      clock_is = sym P.counted;
      clock_counts = omega (
        arith,
        P.counted,
        count_both,
        sum_ext (λ z. bit (even? (after.label z))) (λ z. bit (A z || even? (state.label z))) m (λ z l. ap bit (even_after z)),
      );
      queued = λ z. cc (even_after z, P.queued z, on z, T.stands.queued z);
    }

    orders : NewOrders state A (λ v. s.clock) (s.clock + count (on_cycle m sides) m)
    orders = record {
      from_clock = λ v a. omega (arith, T.stands.clock_is);
      to_clock = λ v a. omega (arith, count_some (on_cycle m sides) v m (odd_inside R s rows state T.stands v (odd_on v a)) (on v ∙ a));
      clock_grows = omega (arith, T.stands.clock_is);
    }

    pub blossom_stands : ScanAt R r t rows' h x (y + 1)
    blossom_stands = record {
      standing = record {
        sized = record {
          few = T.sized.few;
          mates = T.sized.mates;
          labels = P.labels_length ∙ T.sized.labels;
          bases = bases_length;
          parents = T.sized.parents;
          queue = P.queue_length ∙ T.sized.queue;
          bases_inside = base_bound;
        };
        square = square;
        frozen_label = T.frozen_label;
        frozen_base = T.frozen_base;
        frozen_label_is = settled_after;
        between = T.between;
        state = after;
        stands = stands_after;
      };
      scanned = C.at.scanned;
      scanned_is = λ z. C.at.scanned_is z ∙ sym (among_same s.queue t.queue h (λ i l. P.before i (omega (arith, C.at.next))) z);
      next = omega (arith, C.at.next, P.counted);
      current = C.at.current ∙ sym (P.before h C.at.next);
      scanning =
          rw add-one
          (scan_blossom (adjacent R) symmetric M T.frozen_label T.frozen_base r state C.at.scanned x y C.at.scanning
          C.even C.neighbour k C.walked C.ended (λ v. s.clock) (s.clock + count (on_cycle m sides) m) orders);
    }

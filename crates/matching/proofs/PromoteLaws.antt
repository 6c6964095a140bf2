-- The loop over the vertices of a blossom that become even.
use Prim.Native.Nat.{ℕ, zero, suc, ◌+◌, ◌<◌, ◌≤◌}
use mathlib.Core.Path.{◌≡◌, refl, ◌∙◌}
use mathlib.Core.Bool.{Bool, true, false, not, ◌&&◌, ◌||◌}
use mathlib.Core.List.{List}
use native.Mathlib.Numerals.{add-one}
use native.Mathlib.Omega.{arith}
use lib.Dec.{eqb}
use lib.ListN.{length, get_or, set, length-set}
use lib.Seq.{get_or-set_same, get_or-set_other}
use borrow.Author.Tests.{eqb-false, lt-ltb, le-ltb}
use Rattle.ring.proofs.Cases.{yes, no, is, same, different, test, less, not_less, compare, impossible}
use Rattle.ring.proofs.Counting.{sum, count, bit}
use Rattle.sets.specs.declared.Walk.{Walk}
use Rattle.sets.specs.Sets.{has, NoneFrom, Next}
use Rattle.matching.specs.declared.labels.VertexLabel.{VertexLabel}
use Rattle.matching.specs.declared.labels.VertexLabel.TheVariants as kind
use Rattle.matching.specs.declared.climbs.Side.{Side}
use Rattle.matching.specs.declared.climbs.Side.TheVariants.{Neither}
use Rattle.matching.specs.Internal.Steps.{off_cycle, on_cycle, Promoted}
use Rattle.matching.proofs.MembersLaws.{Walking}
use Rattle.matching.proofs.ModelLaws.{among_add}
use Rattle.matching.proofs.RowLaws.{off_neither}

-- sums over more numbers
pub sum_more : (f : ℕ → ℕ) (a b : ℕ) → a ≤ b → sum f a ≤ sum f b
unfolding sum
sum_more f a zero h = let e : a ≡ 0 = omega arith in rw e (omega arith)
sum_more f a (suc b) h = elim (test a (suc b)) [
  | same e g ↦ rw e (omega arith)
  | different e ↦ omega (arith, sum_more f a b (omega (arith, eqb-false a (suc b) e.left)))
]

pub count_next : (p : ℕ → Bool) (n : ℕ) → count p (n + 1) ≡ count p n + bit (p n)
unfolding sum
count_next p n = rw add-one refl

-- the cycle below one more vertex
on_next : (sides : List Side) (n z : ℕ) → on_cycle (n + 1) sides z ≡ (eqb z n && not (off_cycle (get_or sides n Neither)) || on_cycle n sides z)
unfolding on_cycle
on_next sides n z = elim (test z n) [
  | same e f ↦ elim (is (off_cycle (get_or sides n Neither))) [
    | yes g ↦ cc (lt-ltb z (n + 1) (omega arith), le-ltb z n (omega arith))
    | no g ↦ cc (lt-ltb z (n + 1) (omega arith), le-ltb z n (omega arith))
  ]
  | different e ↦ elim (compare z n) [
    | less h i ↦ cc (lt-ltb z (n + 1) (omega arith))
    | not_less h i ↦ cc (le-ltb z (n + 1) (omega (arith, eqb-false z n e.left)))
  ]
]

pub promoted_none : (m : ℕ) (sides : List Side) (labels : List VertexLabel) (queue : List ℕ) (clock : ℕ)
    → Promoted m 0 sides labels queue clock labels queue clock
unfolding on_cycle sum
promoted_none m sides labels queue clock = record {
  labels_length = refl;
  queue_length = refl;
  label = λ z. cc (le-ltb z 0 (omega arith));
  counted = omega arith;
  before = λ i h. refl;
  queued = λ z. cc (le-ltb z 0 (omega arith));
}

module _ (m n : ℕ) (sides : List Side) (labels : List VertexLabel) (queue : List ℕ) (clock : ℕ) (labels' : List VertexLabel)
    (queue' : List ℕ) (clock' : ℕ)
    (P : Promoted m n sides labels queue clock labels' queue' clock') (h : n < m) where
  pub promoted_skip : get_or sides n Neither ≡ Neither → Promoted m (n + 1) sides labels queue clock labels' queue' clock'
  unfolding on_cycle
  promoted_skip e =
      let same-cycle : (z : ℕ) → on_cycle (n + 1) sides z ≡ on_cycle n sides z = λ z. unchanged z e in
      record {
        labels_length = P.labels_length;
        queue_length = P.queue_length;
        label = λ z. cc (P.label z, same-cycle z);
        counted =
            let b : bit (on_cycle m sides n) ≡ 0 = cc (lt-ltb n m h) in
            omega (arith, P.counted, count_next (on_cycle m sides) n);
        before = P.before;
        queued = λ z. cc (P.queued z, same-cycle z);
      }
    where
      unchanged : (z : ℕ) → get_or sides n Neither ≡ Neither → on_cycle (n + 1) sides z ≡ on_cycle n sides z
      unchanged z e = elim (is (eqb z n)) [ yes f ↦ cc (on_next sides n z) | no f ↦ cc (on_next sides n z) ]

  pub promoted_room : off_cycle (get_or sides n Neither) ≡ false → clock + count (on_cycle m sides) m ≤ 512 → clock' < 512
  unfolding on_cycle
  promoted_room e room =
      let b : bit (on_cycle m sides n) ≡ 1 = cc (lt-ltb n m h, e) in
      omega (arith, P.counted, count_next (on_cycle m sides) n, sum_more (λ z. bit (on_cycle m sides z)) (n + 1) m (omega arith))

  pub promoted_take : off_cycle (get_or sides n Neither) ≡ false → n < length labels' → clock' < length queue'
      → Promoted m (n + 1) sides labels queue clock (set labels' n kind.Even) (set queue' clock' n) (clock' + 1)
  unfolding on_cycle
  promoted_take e hl hq =
      record {
        labels_length = length-set labels' n kind.Even ∙ P.labels_length;
        queue_length = length-set queue' clock' n ∙ P.queue_length;
        label = λ z. let o = on_next sides n z in elim (test z n) [
          | same g i ↦ cc (get_or-set_same labels' n kind.Even kind.Free hl)
          | different g ↦ cc (get_or-set_other labels' n z kind.Even kind.Free (eqb-false z n g.left), P.label z)
        ];
        counted =
            let b : bit (on_cycle m sides n) ≡ 1 = cc (lt-ltb n m h) in
            omega (arith, P.counted, count_next (on_cycle m sides) n);
        before = λ i l. get_or-set_other queue' clock' i n 0 (λ g. omega (arith, P.counted)) ∙ P.before i l;
        queued = λ z. let o = on_next sides n z in rw add-one (among_add queue' clock' n z hq ∙ elim (is (eqb z n)) [
          | yes g ↦ cc
          | no g ↦ cc (P.queued z)
        ]);
      }

-- the vertices from n up to k are off the cycle
promoted_between : (m n k : ℕ) (sides : List Side) (labels : List VertexLabel) (queue : List ℕ) (clock : ℕ) (labels' : List VertexLabel)
    (queue' : List ℕ) (clock' : ℕ)
    → Promoted m n sides labels queue clock labels' queue' clock' → n ≤ k → k ≤ m → ((z : ℕ) → n ≤ z → z < k → get_or sides z Neither ≡ Neither)
    → Promoted m k sides labels queue clock labels' queue' clock'
promoted_between m n zero sides labels queue clock labels' queue' clock' P h l off = let e : n ≡ 0 = omega arith in rw e at P
promoted_between m n (suc k) sides labels queue clock labels' queue' clock' P h l off = elim (test n (suc k)) [
  | same e t ↦ rw e at P
  | different d ↦
      let before : n ≤ k = omega (arith, eqb-false n (suc k) d.left) in
      let Q = promoted_between m n k sides labels queue clock labels' queue' clock' P before (omega arith)
      (λ z a b. off z a (omega arith)) in
      rw (add-one k) at (promoted_skip m k sides labels queue clock labels' queue' clock' Q (omega arith) (off k before (omega arith)))
]

-- a walk over the cycle: its next vertex, and the end
module _ {m : ℕ} {sides : List Side} {labels : List VertexLabel} {queue : List ℕ} {clock : ℕ} {labels' : List VertexLabel}
    {queue' : List ℕ} {clock' : ℕ} {cycle : List ℕ} {w : Walk}
    (W : Walking w cycle m) (P : Promoted m w.from sides labels queue clock labels' queue' clock')
    (covered : (v : ℕ) → v < m → has cycle v ≡ false → get_or sides v Neither ≡ Neither) where
  pub promoted_next : {z : ℕ} → Next cycle w.from m z → Promoted m z sides labels queue clock labels' queue' clock'
  promoted_next {z} N =
      promoted_between m w.from z sides labels queue clock labels' queue' clock' P N.least (omega (arith, N.most))
      (λ v a b. covered v (omega (arith, N.most)) (N.passed v a b))

  pub promoted_all : NoneFrom cycle w.from m → Promoted m m sides labels queue clock labels' queue' clock'
  promoted_all none =
      promoted_between m w.from m sides labels queue clock labels' queue' clock' P W.within (omega arith)
      (λ v a b. covered v b (none v a b))

-- what the test of a side says
pub on_true : (side : Side) → not (off_cycle side) ≡ true → off_cycle side ≡ false
on_true side e = elim (is (off_cycle side)) [ yes f ↦ impossible cc | no f ↦ f ]

pub on_false : (side : Side) → not (off_cycle side) ≡ false → side ≡ Neither
on_false side e = off_neither side (elim (is (off_cycle side)) [ yes f ↦ f | no f ↦ impossible cc ])

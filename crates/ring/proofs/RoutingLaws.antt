-- Compatible requests are those that have disjoint ways, and the rule for a pair finds them.
use Prim.Native.Nat.{ℕ, ◌-◌, ◌≤◌, ◌<◌, min, max}
use mathlib.Core.Path.{◌≡◌, sym, ◌∙◌}
use mathlib.Core.Logic.{⊎_elim}
use mathlib.Core.Bool.{true, false, not, ◌&&◌, ◌||◌, true≢false}
use native.Mathlib.Omega.{arith}
use lib.Dec.{eqb, leb, ltb}
use borrow.Author.Tests.{leb-true, le-leb, le-ltb, ltb-false, eqb-true}
use Rattle.ring.specs.declared.requests.Request.{Request}
use Rattle.ring.specs.declared.ways.Way.{Way}
use Rattle.ring.specs.declared.ways.Way.TheVariants.{Plain, Seam}
use Rattle.ring.specs.Ways.{uses, share_link, link_count}
use Rattle.ring.specs.Internal.Sharing.{sharing}
use Rattle.ring.specs.Chords.{inside, compatible}
use Rattle.ring.specs.Routing.{seam_if, twins, shorter_way, first_way, second_way, RoutingPromise, opposite, TwinsPromise}
use Rattle.ring.proofs.Cases.{yes, no, is, less, not_less, compare, and_true, impossible}
use Rattle.ring.proofs.WayLaws.{plain_uses, plain_used, seam_other, seam_uses_last, share_found, share_none, sharing_means}
use Rattle.ring.proofs.WayLaws.{plain_link_count, seam_link_count}
use Rattle.ring.proofs.ChordLaws.{inside_lies, outside_lies, compatible_if, second_end_within, first_end_within}

-- the ends of the one lie within the ends of the other
within_ends : (w x y z : ℕ) → not (leb w x && leb y z) ≡ false → (w ≤ x) × (y ≤ z)
within_ends w x y z e = elim (is (leb w x)) [
  | yes f ↦ elim (is (leb y z)) [
    | yes g ↦ (leb-true w x f, leb-true y z g)
    | no g ↦ impossible (cc)
  ]
  | no f ↦ impossible (cc)
]

-- twins have the same ends
twin_ends : (r s : Request) → twins r s ≡ true → (r.a ≡ s.a) × (r.b ≡ s.b)
unfolding twins
twin_ends r s t =
    let both = and_true (eqb r.a s.a) (eqb r.b s.b) t in
    (eqb-true r.a s.a both.0, eqb-true r.b s.b both.1)

module _ (n : ℕ) (r s : Request) (order-r : r.a < r.b) (node-r : r.b < n) (order-s : s.a < s.b) (node-s : s.b < n) where
  -- the plain way of the one is disjoint from the seam way of the other, around it
  plain_around : s.a ≤ r.a → r.b ≤ s.b → share_link n Plain r Seam s ≡ false
  unfolding sharing
  plain_around h k = sym (sharing_means n Plain r Seam s order-r node-r order-s node-s)
      ∙ cc (le-leb s.a r.a h, le-leb r.b s.b k)

  seam_around : r.a ≤ s.a → s.b ≤ r.b → share_link n Seam r Plain s ≡ false
  unfolding sharing
  seam_around h k = sym (sharing_means n Seam r Plain s order-r node-r order-s node-s) ∙ cc (le-leb r.a s.a h, le-leb s.b r.b k)

  apart : (u v : Way) → sharing u r v s ≡ false → compatible r s ≡ true
  unfolding sharing
  apart Plain Plain e =
      let h = ltb-false (max r.a s.a) (min r.b s.b) e in
      compatible_if r s (omega arith) (omega arith) (λ t. omega arith) (λ t. omega arith)
  apart Plain Seam e =
      let h = within_ends s.a r.a r.b s.b e in
      compatible_if r s (omega arith) (omega arith) (λ t. omega arith) (λ t. omega arith)
  apart Seam Plain e =
      let h = within_ends r.a s.a s.b r.b e in
      compatible_if r s (omega arith) (omega arith) (λ t. omega arith) (λ t. omega arith)
  apart Seam Seam e = impossible e

  -- ways without a common link belong to compatible requests
  pub disjoint_compatible : (u v : Way) → share_link n u r v s ≡ false → compatible r s ≡ true
  disjoint_compatible u v e = apart u v (sharing_means n u r v s order-r node-r order-s node-s ∙ e)

  -- every way uses a link, and so shares one with the plain or with the seam way of the other request
  meets : (u : Way) (link : ℕ) → link < n → uses u r link ≡ true → share_link n u r Plain s ≡ false → share_link n u r Seam s ≡ false → ⊥
  meets u link h g e f = true≢false (cc (seam_other s link, share_none n u r Plain s e link h g, share_none n u r Seam s f link h g))

  pub some_way_shares : (u : Way) → share_link n u r Plain s ≡ false → share_link n u r Seam s ≡ false → ⊥
  some_way_shares Plain = meets Plain r.a (omega arith) (plain_uses r r.a (omega arith) order-r)
  some_way_shares Seam = meets Seam (n - 1) (omega arith) (seam_uses_last n r node-r)

  -- "if no end of the other is strictly between its ends"
  around : inside r s.a ≡ false → inside r s.b ≡ false → share_link n Plain r Plain s ≡ true → (s.a ≤ r.a) × (r.b ≤ s.b)
  around e f g =
      let t = share_found n Plain r Plain s g in
      let p = plain_used r t.link t.first in
      let q = plain_used s t.link t.second in (
        ⊎_elim (λ h. h) (λ h. absurd (omega arith)) (outside_lies r s.a e),
        ⊎_elim (λ h. absurd (omega arith)) (λ h. h) (outside_lies r s.b f),
      )

  -- of twins, each way of the one is disjoint from the opposite way of the other
  twin_apart : twins r s ≡ true → (u : Way) → share_link n u r (opposite u) s ≡ false
  twin_apart t Plain = let e = twin_ends r s t in plain_around (omega arith) (omega arith)
  twin_apart t Seam = let e = twin_ends r s t in seam_around (omega arith) (omega arith)

  -- where some way of the other is disjoint, the one that it takes is
  taken_disjoint : (v : Way) → share_link n (first_way n r s) r v s ≡ false → share_link n (first_way n r s) r (second_way n r s) s ≡ false
  unfolding second_way
  taken_disjoint Plain e = cc
  taken_disjoint Seam e = elim (is (share_link n (first_way n r s) r Plain s)) [ yes f ↦ cc | no f ↦ cc ]

  -- the ways of a pair of compatible requests are disjoint
  pub routing_disjoint : compatible r s ≡ true → share_link n (first_way n r s) r (second_way n r s) s ≡ false
  unfolding first_way second_way
  routing_disjoint c = elim (is (twins r s)) [
    | yes t ↦ taken_disjoint (opposite (first_way n r s)) (twin_apart t (first_way n r s))
    | no t ↦ elim (is (inside r s.a)) [
      | yes e ↦
          let l = inside_lies r s.a e in
          let d = seam_around (omega arith) (second_end_within r s c e) in
          cc
      | no e ↦ elim (is (inside r s.b)) [
        | yes f ↦
            let l = inside_lies r s.b f in
            let d = seam_around (first_end_within r s c f) (omega arith) in
            cc
        | no f ↦ elim (is (share_link n Plain r Plain s)) [
          | yes g ↦
              let d = plain_around (around e f g).0 (around e f g).1 in
              cc
          | no g ↦ cc
        ]
      ]
    ]
  ]

  -- "its one way that is disjoint from that"
  pub routing_unique : (v : Way) → share_link n (first_way n r s) r v s ≡ false → v ≡ second_way n r s
  unfolding second_way
  routing_unique Plain e = cc
  routing_unique Seam e = elim (is (share_link n (first_way n r s) r Plain s)) [
    | yes f ↦ cc
    | no f ↦ absurd (some_way_shares (first_way n r s) f e)
  ]

-- "its one way that is disjoint from that"
pub one_disjoint_way : RoutingPromise
one_disjoint_way n r s o h p k c = record { disjoint = routing_disjoint n r s o h p k c; only = routing_unique n r s o h p k }

-- the way with fewer links, by the ends of the request
pub shorter_by_ends : (n : ℕ) (r : Request) → r.a ≤ r.b → r.b ≤ n → seam_if (ltb (n - (r.b - r.a)) (r.b - r.a)) ≡ shorter_way n r
unfolding shorter_way
shorter_by_ends n r h k = rw (plain_link_count n r h k, seam_link_count n r h k)

-- "the way with fewer links, plain on a tie"
shorter_fewest : (n : ℕ) (r : Request) (way : Way) → link_count n (shorter_way n r) r ≤ link_count n way r
unfolding shorter_way
shorter_fewest n r way = elim (compare (link_count n Seam r) (link_count n Plain r)) [
  | less h e ↦ rw e (seam_least h way)
  | not_less h e ↦ rw e (plain_least h way)
]
  where
    seam_least : link_count n Seam r < link_count n Plain r → (way : Way) → link_count n Seam r ≤ link_count n way r
    seam_least h Plain = omega arith
    seam_least h Seam = omega arith

    plain_least : link_count n Plain r ≤ link_count n Seam r → (way : Way) → link_count n Plain r ≤ link_count n way r
    plain_least h Plain = omega arith
    plain_least h Seam = h

shorter_tie : (n : ℕ) (r : Request) → link_count n Plain r ≡ link_count n Seam r → shorter_way n r ≡ Plain
unfolding shorter_way
shorter_tie n r e = cc (le-ltb (link_count n Seam r) (link_count n Plain r) (omega arith))

-- the way of the first, by whether the two are twins
pub twin_first : (n : ℕ) (r s : Request) → twins r s ≡ true → first_way n r s ≡ shorter_way n r
unfolding first_way
twin_first n r s t = cc

pub other_first : (n : ℕ) (r s : Request) → twins r s ≡ false → first_way n r s ≡ seam_if (inside r s.a || inside r s.b)
unfolding first_way
other_first n r s t = cc

-- "and the other takes the opposite"
pub twin_ways : TwinsPromise
twin_ways n r s o h t =
    let e = twin_ends r s t in
    let p : s.a < s.b = omega arith in
    let k : s.b < n = omega arith in
    record {
      fewest = rw (twin_first n r s t) (shorter_fewest n r);
      tie = λ q. twin_first n r s t ∙ shorter_tie n r q;
      other = sym (routing_unique n r s o h p k (opposite (first_way n r s)) (twin_apart n r s o h p k t (first_way n r s)));
    }

-- The requests that cross one, by the sets of the nodes.
use Prim.Native.Nat.{ℕ, ◌+◌, ◌*◌, ◌<◌, ◌≤◌}
use mathlib.Core.Path.{◌≡◌, refl, ap₂, ◌∙◌}
use mathlib.Core.Bool.{Bool, true, false, not, xor, ◌&&◌, ◌||◌, and_comm}
use mathlib.Core.List.{List}
use native.Mathlib.Omega.{arith}
use lib.Dec.{eqb, ltb}
use lib.ListN.{length}
use borrow.Author.Tests.{eqb-false, ne_eqb, lt-ltb, le-ltb}
use Rattle.ring.specs.declared.requests.Request.{Request}
use Rattle.ring.specs.Requests.{request, ValidRequests}
use Rattle.ring.specs.Chords.{inside, share_end, crosses, compatible}
use Rattle.ring.proofs.Cases.{same, different, test, less, not_less, compare}
use Rattle.neighbours.specs.Neighbours.{Prefixes, Neighbours}
use Rattle.neighbours.specs.Internal.NodeSets.{crossed, Uncrossed}
use Rattle.neighbours.proofs.PrefixLaws.{odd, xor_false}

-- by one end y: it is below n + 1 and not below n exactly if it is n; below b and not below a + 1 exactly if it lies inside
at_node : (n y : ℕ) → xor (ltb y (n + 1)) (ltb y n) ≡ eqb n y
unfolding xor
at_node n y = elim (test n y) [
  | same e f ↦ cc (f, lt-ltb y (n + 1) (omega arith), le-ltb y n (omega arith))
  | different d ↦
      let apart = eqb-false n y d.left in
      elim (compare y n) [
        | less h e ↦ cc (d.left, lt-ltb y (n + 1) (omega arith))
        | not_less h e ↦ cc (d.left, le-ltb y (n + 1) (omega arith))
      ]
]

lies_inside_lem : (r : Request) (y : ℕ) → r.a < r.b → xor (ltb y r.b) (ltb y (r.a + 1)) ≡ inside r y
unfolding xor inside
lies_inside_lem r y h = elim (compare r.a y) [
  | less l e ↦ elim (compare y r.b) [
    | less k f ↦ cc (le-ltb y (r.a + 1) (omega arith))
    | not_less k f ↦ cc (le-ltb y (r.a + 1) (omega arith))
  ]
  | not_less l e ↦ cc (lt-ltb y (r.a + 1) (omega arith), lt-ltb y r.b (omega arith))
]

-- the two ends apart
regroup : (p q s t : Bool) → xor (xor p q) (xor s t) ≡ xor (xor p s) (xor q t)
unfolding xor
regroup true true true true = refl
regroup true true true false = refl
regroup true true false true = refl
regroup true true false false = refl
regroup true false true true = refl
regroup true false true false = refl
regroup true false false true = refl
regroup true false false false = refl
regroup false true true true = refl
regroup false true true false = refl
regroup false true false true = refl
regroup false true false false = refl
regroup false false true true = refl
regroup false false true false = refl
regroup false false false true = refl
regroup false false false false = refl

-- a request has two different ends, so at most one of them at a node
end_at : (s : Request) (n : ℕ) → s.a < s.b → xor (odd s (n + 1)) (odd s n) ≡ (eqb n s.a || eqb n s.b)
unfolding xor
end_at s n h =
    regroup (ltb s.a (n + 1)) (ltb s.b (n + 1)) (ltb s.a n) (ltb s.b n)
    ∙ ap₂ xor (at_node n s.a) (at_node n s.b)
    ∙ elim (test n s.a) [
      | same e f ↦ cc (f, ne_eqb n s.b (λ p. omega arith))
      | different d ↦ cc (d.left, xor_false (eqb n s.b))
    ]

crossed_crosses : (r s : Request) → r.a < r.b → s.a < s.b
    → crossed (odd s r.a) (odd s (r.a + 1)) (odd s r.b) (odd s (r.b + 1)) ≡ crosses r s
unfolding crosses share_end
crossed_crosses r s h k =
    ap₂ ◌&&◌
    (regroup (ltb s.a r.b) (ltb s.b r.b) (ltb s.a (r.a + 1)) (ltb s.b (r.a + 1)) ∙ ap₂ xor (lies_inside_lem r s.a h)
    (lies_inside_lem r s.b h))
    (ap₂ (λ (p q : Bool). not (p || q)) (end_at s r.a k) (end_at s r.b k))
    ∙ and_comm (xor (inside r s.a) (inside r s.b)) (not (share_end r s))

pub uncrossed_end : (R : List Request) (sets : List (List ℕ)) (x words : ℕ) (set : List ℕ) (r : Request) → r ≡ request R x
    → ValidRequests 256 R → Prefixes R sets → x < length R → length R ≤ 64 * words → Uncrossed sets r.a r.b words set
    → Neighbours R x set
unfolding compatible
uncrossed_end R sets x words set r at valid prefixes h all s = record {
  wide = s.wide;
  compatible = λ j l.
      let first : r.a < r.b = rw at (valid.ordered x h) in
      let last : r.b < 256 = rw at (valid.nodes x h) in
      s.members j (omega arith) ∙ cc (
        prefixes.ends r.a j (omega arith) l,
        prefixes.ends (r.a + 1) j (omega arith) l,
        prefixes.ends r.b j (omega arith) l,
        prefixes.ends (r.b + 1) j (omega arith) l,
        crossed_crosses r (request R j) first (valid.ordered j l),
      );
}

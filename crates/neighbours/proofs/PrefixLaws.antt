-- The sets of the nodes while they are made: first each request stands behind its two ends, then each set takes in the one before.
use Prim.Native.Nat.{ℕ, ◌+◌, ◌*◌, ◌<◌, ◌≤◌}
use mathlib.Core.Path.{◌≡◌, refl, ap, ◌∙◌}
use mathlib.Core.Bool.{Bool, true, false, xor, cond, ◌&&◌, ◌||◌}
use mathlib.Core.List.{List, []}
use native.Mathlib.Omega.{arith}
use lib.Dec.{eqb, leb, ltb}
use lib.ListN.{length, get_or, replicate, length-replicate, get_or-replicate}
use borrow.Author.Tests.{eqb-false, eq-eqb, ne_eqb, lt-ltb, le-ltb, le-leb, lt-leb}
use Rattle.ring.specs.declared.requests.Request.{Request}
use Rattle.ring.specs.Requests.{request, ValidRequests}
use Rattle.ring.proofs.Cases.{same, different, test, less, not_less, compare}
use Rattle.sets.specs.Sets.{has}
use Rattle.sets.proofs.SetLaws.{has_none}
use Rattle.neighbours.specs.Neighbours.{empty, Prefixes}
use Rattle.neighbours.specs.Internal.NodeSets.{member, NodeSets, Put, Joined}

-- node y is the one behind an end of a request
abbrev pub behind : Request → ℕ → Bool
behind r y = eqb y (r.a + 1) || eqb y (r.b + 1)

-- an odd number of the request's ends is below node y
abbrev pub odd : Request → ℕ → Bool
odd r y = xor (ltb r.a y) (ltb r.b y)

-- the ends of a request are nodes
pub ends_below : (R : List Request) (i : ℕ) (r : Request) → ValidRequests 256 R → i < length R → r ≡ request R i
    → (r.a < 256) × (r.b < 256)
ends_below R i r valid h e =
    let first : r.a < r.b = rw e (valid.ordered i h) in
    let second : r.b < 256 = rw e (valid.nodes i h) in
    (omega arith, second)

-- ---- the requests below i stand behind their ends

pub record Behind (R : List Request) (sets : List (List ℕ)) (i : ℕ) : Type 0 where
  pub node_sets : NodeSets sets
  pub members : (y j : ℕ) → y < 257 → member sets y j ≡ (ltb j i && behind (request R j) y)

pub behind_start : (R : List Request) (sets : List (List ℕ)) → sets ≡ empty → Behind R sets 0
behind_start R sets e = rw e (record {
  node_sets = record { many = length-replicate 257 (replicate {A = ℕ} 8 0); wide = λ x h. ap length (row x h) };
  members = λ y j h. ap (λ (l : List ℕ). has l j) (row y h) ∙ cc (has_none j, le-ltb j 0 (omega arith));
})
  where
    row : (x : ℕ) → x < 257 → get_or empty x [] ≡ replicate {A = ℕ} 8 0
    row x h = get_or-replicate 257 x (replicate 8 0) [] h

-- what two puts give for the number that is put, and for any other
put_this : (p q : Bool) → ((q && true) || ((p && true) || false)) ≡ (p || q)
put_this true true = refl
put_this true false = refl
put_this false true = refl
put_this false false = refl

put_other : (p q t : Bool) → ((q && false) || ((p && false) || t)) ≡ t
put_other true true t = refl
put_other true false t = refl
put_other false true t = refl
put_other false false t = refl

pub behind_turn : (R : List Request) (sets one both : List (List ℕ)) (i : ℕ) (r : Request) → r ≡ request R i → Behind R sets i
    → Put sets one (r.a + 1) i → Put one both (r.b + 1) i → Behind R both (i + 1)
behind_turn R sets one both i r at s first second = record {
  node_sets = second.node_sets;
  members = λ y j h.
      let p = eqb y (r.a + 1) in
      let q = eqb y (r.b + 1) in
      second.members y j h ∙ elim (test j i) [
        | same e f ↦ cc (f, first.members y j h, s.members y j h, le-ltb j i (omega arith), lt-ltb j (i + 1) (omega arith), put_this p q)
        | different d ↦ elim (compare j i) [
          | less l t ↦
              cc (
                d.left,
                first.members y j h,
                s.members y j h,
                t,
                lt-ltb j (i + 1) (omega arith),
                put_other p q (behind (request R j) y),
              )
          | not_less l t ↦
              let apart = eqb-false j i d.left in
              cc (d.left, first.members y j h, s.members y j h, t, le-ltb j (i + 1) (omega arith), put_other p q false)
        ]
      ];
}

-- ---- the sets of the nodes up to x are done

pub record Done (R : List Request) (sets : List (List ℕ)) (x : ℕ) : Type 0 where
  pub node_sets : NodeSets sets
  pub members : (y j : ℕ) → y < 257 → j < length R → member sets y j ≡ cond (leb y x) (odd (request R j) y) (behind (request R j) y)

pub done_start : (R : List Request) (sets : List (List ℕ)) (i : ℕ) → length R ≤ i → Behind R sets i → Done R sets 0
unfolding xor
done_start R sets i all s = record {
  node_sets = s.node_sets;
  members = λ y j h l.
      let r = request R j in
      let here : ltb j i ≡ true = lt-ltb j i (omega arith) in
      s.members y j h ∙ elim (test y 0) [
        | same e f ↦ cc (
          here,
          e,
          le-leb y 0 (omega arith),
          ne_eqb y (r.a + 1) (λ p. omega arith),
          ne_eqb y (r.b + 1) (λ p. omega arith),
          le-ltb r.a y (omega arith),
          le-ltb r.b y (omega arith),
        )
        | different d ↦
            let apart = eqb-false y 0 d.left in
            cc (here, lt-leb y 0 (omega arith))
      ];
}

-- a number that is no x counts as below x + 1 if it does as below x
ltb_next : (a x : ℕ) → (x ≡ a → ⊥) → ltb a (x + 1) ≡ ltb a x
ltb_next a x n = elim (compare a x) [
  | less h e ↦ cc (lt-ltb a (x + 1) (omega arith))
  | not_less h e ↦ cc (le-ltb a (x + 1) (omega arith))
]

pub xor_false : (p : Bool) → xor false p ≡ p
unfolding xor
xor_false true = refl
xor_false false = refl

odd_next : (r : Request) (x : ℕ) → r.a < r.b → xor (behind r (x + 1)) (odd r x) ≡ odd r (x + 1)
unfolding xor
odd_next r x h = elim (test x r.a) [
  | same e f ↦ cc (
    eq-eqb (x + 1) (r.a + 1) (omega arith),
    le-ltb r.a x (omega arith),
    le-ltb r.b x (omega arith),
    lt-ltb r.a (x + 1) (omega arith),
    le-ltb r.b (x + 1) (omega arith),
  )
  | different c ↦
      let no-first = eqb-false x r.a c.left in
      elim (test x r.b) [
        | same e f ↦ cc (
          ne_eqb (x + 1) (r.a + 1) (λ p. omega arith),
          eq-eqb (x + 1) (r.b + 1) (omega arith),
          lt-ltb r.a x (omega arith),
          le-ltb r.b x (omega arith),
          lt-ltb r.a (x + 1) (omega arith),
          lt-ltb r.b (x + 1) (omega arith),
        )
        | different d ↦
            let no_second = eqb-false x r.b d.left in
            cc (
              ne_eqb (x + 1) (r.a + 1) (λ p. no-first (omega arith)),
              ne_eqb (x + 1) (r.b + 1) (λ p. no_second (omega arith)),
              ltb_next r.a x no-first,
              ltb_next r.b x no_second,
              xor_false (odd r x),
            )
      ]
]

pub done_turn : (R : List Request) (sets after : List (List ℕ)) (x words : ℕ) → ValidRequests 256 R → x < 256 → length R ≤ 64 * words
    → Done R sets x → Joined sets after x words → Done R after (x + 1)
done_turn R sets after x words valid h all s joined = record {
  node_sets = joined.node_sets;
  members = λ y j l b.
      let here : ltb j (64 * words) ≡ true = lt-ltb j (64 * words) (omega arith) in
      joined.members y j l ∙ elim (test y (x + 1)) [
        | same e f ↦ cc (
          f,
          here,
          s.members (x + 1) j (omega arith) b,
          s.members x j (omega arith) b,
          lt-leb (x + 1) x (omega arith),
          le-leb x x (omega arith),
          le-leb y (x + 1) (omega arith),
          odd_next (request R j) x (valid.ordered j b),
        )
        | different d ↦ elim (compare x y) [
          | less t e ↦
              let apart = eqb-false y (x + 1) d.left in
              cc (d.left, s.members y j l b, lt-leb y x t, lt-leb y (x + 1) (omega arith))
          | not_less t e ↦ cc (d.left, s.members y j l b, le-leb y x t, le-leb y (x + 1) (omega arith))
        ]
      ];
}

pub done_end : (R : List Request) (sets : List (List ℕ)) (x : ℕ) → 256 ≤ x → Done R sets x → Prefixes R sets
done_end R sets x all s = record {
  many = s.node_sets.many;
  wide = s.node_sets.wide;
  ends = λ y j h l. s.members y j h l ∙ cc (le-leb y x (omega arith));
}

pub prefixes_node_sets : (R : List Request) (sets : List (List ℕ)) → Prefixes R sets → NodeSets sets
prefixes_node_sets R sets s = record { many = s.many; wide = s.wide }

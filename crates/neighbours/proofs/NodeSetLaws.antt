-- The set of one node is changed, as a whole or in one word.
use Prim.Native.Nat.{ℕ, ◌+◌, ◌*◌, ◌/◌, ◌%◌, ◌<◌}
use mathlib.Core.Path.{◌≡◌, refl, ◌∙◌}
use mathlib.Core.Bool.{not, xor, cond, ◌||◌}
use mathlib.Core.List.{List, []}
use native.Mathlib.Omega.{arith}
use lib.Bits.{bit_xor}
use lib.Dec.{eqb, ltb}
use lib.ListN.{length, get_or, set, length-set}
use borrow.Author.Tests.{eqb-false, lt-ltb, le-ltb, ne_eqb, eq-eqb}
use Rattle.ring.proofs.Cases.{yes, no, is, same, different, test, less, not_less, compare}
use Rattle.sets.specs.Sets.{has}
use Rattle.sets.proofs.BitLaws.{on, on_xor}
use Rattle.sets.proofs.SetLaws.{has_set, has_word, has_row, row_length}
use Rattle.neighbours.specs.Internal.NodeSets.{member, NodeSets, Put, Joined, crossed, Uncrossed}

module _ (sets : List (List ℕ)) (x : ℕ) (row : List ℕ) (node_sets : NodeSets sets) (h : x < 257) where
  inside : x < length sets
  inside = omega (arith, node_sets.many)

  member_set : (y j : ℕ) → member (set sets x row) y j ≡ cond (eqb y x) (has row j) (member sets y j)
  member_set y j = has_row sets x row inside y j

  node_sets_set : length row ≡ 8 → NodeSets (set sets x row)
  node_sets_set w = record {
    many = length-set sets x row ∙ node_sets.many;
    wide = λ y l. row_length sets x row inside y 8 w (node_sets.wide y l);
  }

  -- a number is put into the set
  pub put_row : (i : ℕ) → length row ≡ 8 → ((j : ℕ) → has row j ≡ (eqb j i || member sets x j)) → Put sets (set sets x row) x i
  put_row i w each = record {
    node_sets = node_sets_set w;
    members = λ y j l. member_set y j ∙ elim (test y x) [
      | same e f ↦ cc (each j, f)
      | different d ↦ cc d.left
    ];
  }

-- ---- the set of node x + 1 takes in that of node x

pub join_start : (sets : List (List ℕ)) (x : ℕ) → NodeSets sets → Joined sets sets x 0
join_start sets x node_sets = record {
  node_sets = node_sets;
  members = λ y j h. elim (is (eqb y (x + 1))) [
    | yes e ↦ cc (le-ltb j 0 (omega arith))
    | no e ↦ cc
  ];
}

module _ (sets now : List (List ℕ)) (x k : ℕ) (h : x < 256) (l : k < 8) (s : Joined sets now x k) where
  row : List ℕ
  row = get_or now (x + 1) []

  word : ℕ
  word = bit_xor (get_or row k 0) (get_or (get_or now x []) k 0)

  wide : length row ≡ 8
  unfolding row
  wide = s.node_sets.wide (x + 1) (omega arith)

  -- number j of the set, before and after
  joined : (j : ℕ)
      → has (set row k word) j ≡ cond (ltb j (64 * (k + 1))) (xor (member sets (x + 1) j) (member sets x j)) (member sets (x + 1) j)
  unfolding row word
  joined j = has_set row k word j (omega (arith, wide)) ∙ elim (test (j / 64) k) [
    | same e f ↦
        cc (
          f,
          on_xor (get_or row k 0) (get_or (get_or now x []) k 0) (j % 64),
          has_word row k j e,
          has_word (get_or now x []) k j e,
          s.members (x + 1) j (omega arith),
          s.members x j (omega arith),
          ne_eqb x (x + 1) (λ p. omega arith),
          le-ltb j (64 * k) (omega arith),
          eq-eqb (x + 1) (x + 1) refl,
          lt-ltb j (64 * (k + 1)) (omega arith),
        )
    | different d ↦ elim (compare j (64 * k)) [
      | less p q ↦ cc (d.left, q, s.members (x + 1) j (omega arith), eq-eqb (x + 1) (x + 1) refl, lt-ltb j (64 * (k + 1)) (omega arith))
      | not_less p q ↦
          let apart = eqb-false (j / 64) k d.left in
          cc (d.left, q, s.members (x + 1) j (omega arith), eq-eqb (x + 1) (x + 1) refl, le-ltb j (64 * (k + 1)) (omega arith))
    ]
  ]

  pub join_turn : Joined sets
      (set now (x + 1) (set (get_or now (x + 1) []) k (bit_xor (get_or (get_or now (x + 1) []) k 0) (get_or (get_or now x []) k 0)))) x (k + 1)
  unfolding row word
  join_turn = record {
    node_sets = node_sets_set now (x + 1) (set row k word) s.node_sets (omega arith) (length-set row k word ∙ wide);
    members = λ y j b. member_set now (x + 1) (set row k word) s.node_sets (omega arith) y j ∙ elim (test y (x + 1)) [
      | same e f ↦ cc (f, joined j)
      | different d ↦ cc (d.left, s.members y j b)
    ];
  }

-- ---- the numbers that do not cross, word by word

pub uncrossed_start : (sets : List (List ℕ)) (a b : ℕ) (set : List ℕ) → length set ≡ 8 → Uncrossed sets a b 0 set
uncrossed_start sets a b set e = record { wide = e; members = λ j h. absurd (omega arith) }

pub uncrossed_turn : (sets : List (List ℕ)) (a b k word : ℕ) (now : List ℕ) → k < 8 → Uncrossed sets a b k now
    → ((i : ℕ) → i < 64 → on word i ≡ not
    (crossed (on (get_or (get_or sets a []) k 0) i) (on (get_or (get_or sets (a + 1) []) k 0) i) (on (get_or (get_or sets b []) k 0) i)
    (on (get_or (get_or sets (b + 1) []) k 0) i)))
    → Uncrossed sets a b (k + 1) (set now k word)
uncrossed_turn sets a b k word now h s each = record {
  wide = length-set now k word ∙ s.wide;
  members = λ j l. has_set now k word j (omega (arith, s.wide)) ∙ elim (test (j / 64) k) [
    | same e f ↦ cc (
      f,
      each (j % 64) (omega arith),
      has_word (get_or sets a []) k j e,
      has_word (get_or sets (a + 1) []) k j e,
      has_word (get_or sets b []) k j e,
      has_word (get_or sets (b + 1) []) k j e,
    )
    | different d ↦
        let apart = eqb-false (j / 64) k d.left in
        cc (d.left, s.members j (omega arith))
  ];
}

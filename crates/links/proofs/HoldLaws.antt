-- The rows of the colours while the links of a way are held, word by word.
use Prim.Native.Nat.{ℕ, ◌+◌, ◌-◌, ◌*◌, ◌/◌, ◌%◌, ◌^◌, ◌<◌}
use mathlib.Core.Path.{◌≡◌, refl, sym, ◌∙◌}
use mathlib.Core.Bool.{Bool, true, false, not, ◌&&◌, ◌||◌, and_comm, or-false}
use mathlib.Core.List.{List, []}
use native.Mathlib.Nat.{lt_of_le_of_lt}
use native.Mathlib.Omega.{arith}
use lib.Bits.{bit_and, bit_or, and_le_r}
use lib.Count.{count_trailing_zeros}
use lib.Dec.{eqb, ltb}
use lib.ListN.{length, get_or, set, length-set}
use borrow.Author.Tests.{eqb-false, eqb-true, eq-eqb, lt-ltb, le-ltb}
use Rattle.ring.specs.declared.requests.Request.{Request}
use Rattle.ring.specs.declared.ways.Way.{Way}
use Rattle.ring.specs.Ways.{uses, some_link}
use Rattle.ring.proofs.Cases.{yes, no, is, same, different, test, less, not_less, compare, impossible}
use Rattle.ring.proofs.WayLaws.{same_test, some_found, found_some}
use Rattle.sets.specs.Sets.{has}
use Rattle.sets.proofs.BitLaws.{on, bit_zero, on_and, on_or}
use Rattle.sets.proofs.TrailingLaws.{trailing_at}
use Rattle.sets.proofs.SetLaws.{has_set, has_word, has_row, row_length}
use Rattle.links.specs.Links.{held, LinkSets, Held}

-- ---- a property of the links of a word

-- a word that is not 0 has a bit
pub word_some : (v : ℕ) → v < 2 ^ 64 → (eqb v 0 ≡ false) → some_link 64 (on v) ≡ true
word_some v h e =
    let d = eqb-false v 0 e in
    let low = trailing_at 64 v (omega arith) h in
    found_some 64 (on v) (count_trailing_zeros 64 v) low.0 (cc low.1)

module _ (p : ℕ → Bool) (k v : ℕ) (h : v < 2 ^ 64) (word : (i : ℕ) → i < 64 → on v i ≡ p (64 * k + i)) where
  to : some_link (64 * (k + 1)) p ≡ true → (some_link (64 * k) p || not (eqb v 0)) ≡ true
  to e =
      let found = some_found (64 * (k + 1)) p e in
      let link = found.link in
      elim (compare link (64 * k)) [
        | less l t ↦ cc (found_some (64 * k) p link l found.holds)
        | not_less l t ↦ elim (is (eqb v 0)) [
          | yes z ↦
              let zero = eqb-true v 0 z in
              let place : 64 * k + (link - 64 * k) ≡ link = omega arith in
              impossible (cc (found.holds, word (link - 64 * k) (omega (arith, found.below)), bit_zero (link - 64 * k)))
          | no z ↦ elim (is (some_link (64 * k) p)) [
            | yes s ↦ cc
            | no s ↦ cc
          ]
        ]
      ]

  from : (some_link (64 * k) p || not (eqb v 0)) ≡ true → some_link (64 * (k + 1)) p ≡ true
  from e = elim (is (some_link (64 * k) p)) [
    | yes s ↦
        let found = some_found (64 * k) p s in
        found_some (64 * (k + 1)) p found.link (omega (arith, found.below)) found.holds
    | no s ↦ elim (is (eqb v 0)) [
      | yes z ↦ impossible (cc)
      | no z ↦
          let found = some_found 64 (on v) (word_some v h z) in
          found_some (64 * (k + 1)) p (64 * k + found.link) (omega (arith, found.below)) (sym (word found.link found.below)
          ∙ found.holds)
    ]
  ]

  -- one word more
  some_word : some_link (64 * (k + 1)) p ≡ (some_link (64 * k) p || not (eqb v 0))
  some_word = same_test (some_link (64 * (k + 1)) p) (some_link (64 * k) p || not (eqb v 0)) to from

neither : (s e : Bool) → (not s && e) ≡ not (s || not e)
neither true e = refl
neither false true = refl
neither false false = refl

-- ---- the words below k are held

pub record Done (rows now : List (List ℕ)) (way : Way) (request : Request) (colour k : ℕ) (free : Bool) : Type 0 where
  pub shape : LinkSets now
  pub links : (c link : ℕ) → c < 128
      → held now c link ≡ (held rows c link || (eqb colour c && (ltb link (64 * k) && uses way request link)))
  pub unheld : free ≡ not (some_link (64 * k) (λ link. uses way request link && held rows colour link))

module _ (rows : List (List ℕ)) (way : Way) (request : Request) (colour : ℕ) where
  pub done_start : LinkSets rows → Done rows rows way request colour 0 true
  unfolding some_link
  done_start shape = record {
    shape = shape;
    links = λ c link h. elim (is (eqb colour c)) [
      | yes e ↦ cc (le-ltb link 0 (omega arith), or-false (held rows c link))
      | no e ↦ cc (or-false (held rows c link))
    ];
    unheld = refl;
  }

  pub done_end : (now : List (List ℕ)) (free : Bool) → Done rows now way request colour 4 free → Held rows now way request colour free
  done_end now free s = record {
    shape = s.shape;
    links = λ c link h l. s.links c link h ∙ cc (lt-ltb link 256 l);
    unheld = s.unheld;
  }

  module _ (now : List (List ℕ)) (k w : ℕ) (free still : Bool) (h : colour < 128) (l : k < 4) (s : Done rows now way request colour k free)
      (few : w < 2 ^ 64)
      (word : (i : ℕ) → i < 64 → on w i ≡ uses way request (64 * k + i))
      (tested : still ≡ (free && eqb (bit_and (get_or (get_or now colour []) k 0) w) 0)) where
    row : List ℕ
    row = get_or now colour []

    old : ℕ
    old = get_or row k 0

    wide : length row ≡ 4
    unfolding row
    wide = s.shape.wide colour h

    inside : colour < length now
    inside = omega (arith, s.shape.many)

    -- a link of word k, before and after
    before : (link : ℕ) → link / 64 ≡ k → on old (link % 64) ≡ held rows colour link
    unfolding row old
    before link e = cc (
      has_word row k link e,
      s.links colour link h,
      eq-eqb colour colour refl,
      le-ltb link (64 * k) (omega arith),
      or-false (held rows colour link),
    )

    linked : (link : ℕ) → has (set row k (bit_or old w)) link ≡ (held rows colour link || (ltb link (64 * (k + 1)) && uses way request link))
    unfolding row
    linked link = has_set row k (bit_or old w) link (omega (arith, wide)) ∙ elim (test (link / 64) k) [
      | same e f ↦
          let place : 64 * k + link % 64 ≡ link = omega arith in
          cc (f, on_or old w (link % 64), before link e, word (link % 64) (omega arith), lt-ltb link (64 * (k + 1)) (omega arith))
      | different d ↦ elim (compare link (64 * k)) [
        | less p q ↦ cc (d.left, q, s.links colour link h, eq-eqb colour colour refl, lt-ltb link (64 * (k + 1)) (omega arith))
        | not_less p q ↦
            let apart = eqb-false (link / 64) k d.left in
            cc (d.left, q, s.links colour link h, eq-eqb colour colour refl, le-ltb link (64 * (k + 1)) (omega arith))
      ]
    ]

    -- a bit of both words: a link of the way that is held
    both : (i : ℕ) → i < 64 → on (bit_and old w) i ≡ (uses way request (64 * k + i) && held rows colour (64 * k + i))
    both i b =
        let place : (64 * k + i) % 64 ≡ i = omega arith in
        cc (
          on_and old w i,
          before (64 * k + i) (omega arith),
          word i b,
          and_comm (uses way request (64 * k + i)) (held rows colour (64 * k + i)),
        )

    pub done_turn : Done rows (set now colour (set (get_or now colour []) k (bit_or (get_or (get_or now colour []) k 0) w))) way request colour
        (k + 1) still
    unfolding row old
    done_turn = record {
      shape = record {
        many = length-set now colour (set row k (bit_or old w)) ∙ s.shape.many;
        wide = λ c b. row_length now colour (set row k (bit_or old w)) inside c 4 (length-set row k (bit_or old w) ∙ wide)
            (s.shape.wide c b);
      };
      links = λ c link b. has_row now colour (set row k (bit_or old w)) inside c link ∙ elim (test c colour) [
        | same e f ↦ cc (f, linked link)
        | different d ↦ cc (d.left, d.right, s.links c link b)
      ];
      unheld = cc (
        tested,
        s.unheld,
        some_word (λ link. uses way request link && held rows colour link) k (bit_and old w) (lt_of_le_of_lt (and_le_r old w) few) both,
        neither (some_link (64 * k) (λ link. uses way request link && held rows colour link)) (eqb (bit_and old w) 0),
      );
    }

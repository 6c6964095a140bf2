-- The new bases of a blossom: one vertex, one turn of a loop over some of them, and the end.
use Prim.Native.Nat.{ℕ, ◌+◌, ◌<◌, ◌≤◌}
use mathlib.Core.Path.{◌≡◌, refl, sym, ◌∙◌}
use mathlib.Core.Bool.{Bool, true, false, ◌&&◌, ◌||◌}
use mathlib.Core.List.{List}
use native.Mathlib.Numerals.{add-one}
use native.Mathlib.Omega.{arith}
use lib.Dec.{eqb}
use lib.ListN.{length, get_or, set, replicate, length-set}
use borrow.Author.Tests.{eqb-true, eqb-false, lt-ltb}
use Rattle.ring.proofs.Cases.{yes, no, is, same, different, test, less, not_less, compare}
use Rattle.sets.specs.Sets.{has, NoneFrom, Next}
use Rattle.matching.specs.declared.climbs.Marks.{Marks}
use Rattle.matching.specs.declared.matchings.Search.{Search}
use Rattle.matching.specs.Internal.Model.{among}
use Rattle.matching.specs.Internal.Steps.{base_on, joins_blossom, new_base}
use Rattle.matching.specs.Internal.Bases.{has_below, Rebased}
use Rattle.matching.proofs.RowLaws.{entry_set}

-- no vertex
pub rebased_none : (b : ℕ) (given : ℕ → Bool) (bases joined : List ℕ) → length bases ≡ 512 → length joined ≡ 8 → ((z : ℕ) → given z ≡ false)
    → Rebased b given bases joined bases joined
rebased_none b given bases joined wide words none =
    record { bases_length = wide; joined_length = words; base = λ z. cc (none z); member = λ z. cc (none z) }

-- one vertex
pub rebased_one : (b z : ℕ) (these : ℕ → Bool) (bases joined joined' : List ℕ) → ((y : ℕ) → these y ≡ eqb y z) → length bases ≡ 512
    → z < 512
    → length joined' ≡ 8 → ((y : ℕ) → has joined' y ≡ (eqb y z || has joined y)) → Rebased b these bases joined (set bases z b) joined'
rebased_one b z these bases joined joined' are wide inside words member = record {
  bases_length = length-set bases z b ∙ wide;
  joined_length = words;
  base = λ y. cc (are y, entry_set bases z b y (omega arith));
  member = λ y. cc (are y, member y);
}

-- one vertex, by whether its base is on
module _ (b z : ℕ) (bases : List ℕ) (on : List Bool) (joined : List ℕ) (wide : length bases ≡ 512) where
  pub vertex_on : (joined' : List ℕ) → get_or on (get_or bases z 0) false ≡ true → z < 512 → length joined' ≡ 8
      → ((y : ℕ) → has joined' y ≡ (eqb y z || has joined y))
      → Rebased b (λ y. eqb y z && base_on bases on z) bases joined (set bases z b) joined'
  vertex_on joined' e =
      rebased_one b z (λ y. eqb y z && base_on bases on z) bases joined joined' (λ y. elim (is (eqb y z)) [ yes t ↦ cc | no t ↦ cc ]) wide

  pub vertex_off : get_or on (get_or bases z 0) false ≡ false → length joined ≡ 8
      → Rebased b (λ y. eqb y z && base_on bases on z) bases joined bases joined
  vertex_off e words =
      rebased_none b (λ y. eqb y z && base_on bases on z) bases joined wide words (λ y. elim (is (eqb y z)) [ yes t ↦ cc | no t ↦ cc ])

-- more vertices
pub rebased_more : {b : ℕ} {given these : ℕ → Bool} {bases joined now joined' after joined'' : List ℕ} (given' : ℕ → Bool)
    → Rebased b given bases joined now joined' → Rebased b these now joined' after joined''
    → ((y : ℕ) → given' y ≡ (these y || given y)) → Rebased b given' bases joined after joined''
rebased_more {these = these} given' H one more = record {
  bases_length = one.bases_length;
  joined_length = one.joined_length;
  base = λ y. elim (is (these y)) [ yes e ↦ cc (more y, one.base y) | no e ↦ cc (more y, one.base y, H.base y) ];
  member = λ y. elim (is (these y)) [ yes e ↦ cc (more y, one.member y) | no e ↦ cc (more y, one.member y, H.member y) ];
}

-- a base is below m still
pub rebased_inside : {b : ℕ} {given : ℕ → Bool} {bases joined after joined' : List ℕ} (m : ℕ) → Rebased b given bases joined after joined'
    → b < m
    → (z : ℕ) → get_or bases z 0 < m → get_or after z 0 < m
rebased_inside {b} {given} {bases} {joined} {after} m H inside z l = elim (is (given z)) [
  | yes t ↦ let e : get_or after z 0 ≡ b = cc (H.base z) in omega arith
  | no t ↦ let e : get_or after z 0 ≡ get_or bases z 0 = cc (H.base z) in omega arith
]

-- the queue has one vertex more, z: `seen` says whether it was there before, `on` and `now` whether its base was on and is on
queue_test : (here seen on now : Bool) → (here ≡ true → (seen && on) ≡ false → now ≡ on)
    → ((here || seen) && on) ≡ (here && now || seen && on)
queue_test false seen on now h = refl
queue_test true true true true h = refl
queue_test true true true false h = refl
queue_test true true false now h = cc (h refl refl)
queue_test true false true now h = cc (h refl refl)
queue_test true false false now h = cc (h refl refl)

pub queued_turn : {b : ℕ} {bases joined now joined' : List ℕ} (queue : List ℕ) (on : List Bool) (i z : ℕ) → z ≡ get_or queue i 0
    → Rebased b (λ y. among queue i y && base_on bases on y) bases joined now joined'
    → (y : ℕ) → (among queue (i + 1) y && base_on bases on y) ≡ (eqb y z && base_on now on z || among queue i y && base_on bases on y)
queued_turn {b} {bases} {joined} {now} queue on i z e H y =
    rw add-one (rw (sym e) (queue_test (eqb y z) (among queue i y) (base_on bases on y) (base_on now on z)
    (λ t n. let f : y ≡ z = eqb-true y z t in cc (H.base y))))

-- a walk over a set: its next vertex, and the vertices from the last one on
pub below_step : {words : List ℕ} {from end z : ℕ} → Next words from end z → (y : ℕ)
    → has_below (z + 1) words y ≡ (eqb y z || has_below from words y)
unfolding has_below
below_step {words} {from} {end} {z} N y = elim (test y z) [
  | same e t ↦ cc (lt-ltb y (z + 1) (omega arith), N.member)
  | different d ↦ elim (compare y from) [
    | less a b ↦ cc (lt-ltb y (z + 1) (omega (arith, N.least)), d.left)
    | not_less a b ↦ elim (compare y (z + 1)) [
      | less i j ↦ cc (d.left, N.passed y a (omega (arith, eqb-false y z d.left)))
      | not_less i j ↦ cc d.left
    ]
  ]
]

pub below_end : (words : List ℕ) (from end : ℕ) → NoneFrom words from end → from ≤ end → (y : ℕ)
    → has_below end words y ≡ has_below from words y
unfolding has_below
below_end words from end none l y = elim (compare y from) [
  | less a b ↦ cc (lt-ltb y end (omega arith))
  | not_less a b ↦ elim (compare y end) [ less i j ↦ cc (none y a i) | not_less i j ↦ cc ]
]

pub below_zero : (words : List ℕ) (y : ℕ) → has_below 0 words y ≡ false
unfolding has_below
below_zero words y = elim (compare y 0) [ less l k ↦ absurd (omega arith) | not_less l k ↦ cc ]

-- the same vertices
pub rebased_alike : {b : ℕ} {given : ℕ → Bool} {bases joined after joined' : List ℕ} (given' : ℕ → Bool)
    → Rebased b given bases joined after joined' → ((y : ℕ) → given' y ≡ given y) → Rebased b given' bases joined after joined'
rebased_alike given' H alike = record {
  bases_length = H.bases_length;
  joined_length = H.joined_length;
  base = λ y. cc (alike y, H.base y);
  member = λ y. cc (alike y, H.member y);
}

-- after the queued vertices and those of the cycle
module _ (m b : ℕ) (s : Search) (marks : Marks) {middle joined after joined' : List ℕ}
    (first : Rebased b (λ z. among s.queue s.clock z && base_on s.bases marks.on z) s.bases (replicate 8 0) middle joined)
    (second : Rebased b (has_below m marks.cycle) middle joined after joined') where
  whole : Rebased b (λ z. has_below m marks.cycle z || among s.queue s.clock z && base_on s.bases marks.on z) s.bases (replicate 8 0)
      after joined'
  whole =
      rebased_more (λ z. has_below m marks.cycle z || among s.queue s.clock z && base_on s.bases marks.on z) first second (λ y. refl)

  pub rebased_base : (z : ℕ) → z < m → get_or after z 0 ≡ new_base s marks b z
  unfolding new_base joins_blossom has_below
  rebased_base z l = cc (whole.base z, lt-ltb z m l)

  pub rebased_joined : (z : ℕ) → z < m → joins_blossom s marks z ≡ true → has joined' z ≡ true
  unfolding joins_blossom has_below
  rebased_joined z l j = cc (whole.member z, lt-ltb z m l)

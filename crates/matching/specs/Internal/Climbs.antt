-- A walk up the tree from x against y, as the arrays have it: from base to base, over the mates of these.
use Rattle.std.specs.Prelude.{ℕ, zero, suc, ◌<◌, ◌≡◌, Bool, true, false, not, cond, ◌&&◌, ◌||◌, List, eqb, length, get_or}
use Rattle.sets.specs.Sets.{has}
use Rattle.matching.specs.declared.climbs.Marks.{Marks}
use Rattle.matching.specs.declared.climbs.Side.{Side}
use Rattle.matching.specs.declared.climbs.Side.TheVariants.{Neither, First, Second}
use Rattle.matching.specs.declared.matchings.Search.{Search}
use Rattle.matching.specs.Internal.Rows.{cell}

-- the base above b: that of the parent of its mate
abbrev pub base_above : Search → ℕ → ℕ
base_above s b = get_or s.bases (get_or s.parents (get_or s.mates b 0) 0) 0

-- the base after n steps
abbrev pub base_after : Search → ℕ → ℕ → ℕ
base_after s x zero = get_or s.bases x 0
base_after s x (suc n) = base_above s (base_after s x n)

-- c is one of the first n bases
abbrev pub visited : Search → ℕ → ℕ → ℕ → Bool
visited s x zero c = false
visited s x (suc n) c = eqb c (base_after s x n) || visited s x n c

-- v is the mate of one of them
abbrev pub passed : Search → ℕ → ℕ → ℕ → Bool
passed s x zero v = false
passed s x (suc n) v = eqb v (get_or s.mates (base_after s x n) 0) || passed s x n v

-- the walk goes on from the base b: it has a mate, and this is not above y
unfoldable pub goes_on : List (List ℕ) → Search → ℕ → ℕ → Bool
goes_on rows s y b = not (eqb (get_or s.mates b 0) b) && eqb (cell rows y (get_or s.mates b 0)) (get_or s.mates (get_or s.mates b 0) 0)

-- it takes n steps at least
abbrev pub went : List (List ℕ) → Search → ℕ → ℕ → ℕ → Bool
went rows s x y zero = true
went rows s x y (suc n) = went rows s x y n && goes_on rows s y (base_after s x n)

-- what the walk asks: it stays within the arrays, and takes fewer steps than these have places
pub record Climbable (rows : List (List ℕ)) (s : Search) (x y : ℕ) : Type 0 where
  pub from : x < 512
  pub against : y < length rows
  pub base_inside : (n : ℕ) → went rows s x y n ≡ true → base_after s x n < 512
  pub mate_inside : (n : ℕ) → went rows s x y n ≡ true → get_or s.mates (base_after s x n) 0 < 512
  pub parent_inside : (n : ℕ) → went rows s x y (suc n) ≡ true
      → get_or s.parents (get_or s.mates (base_after s x n) 0) 0 < 512
  pub short : (n : ℕ) → went rows s x y n ≡ true → n < 512

-- after n steps, at the base b
pub record Marked (rows : List (List ℕ)) (s : Search) (x y : ℕ) (side : Side) (n b : ℕ) (before after : Marks) : Type 0 where
  pub went_on : went rows s x y n ≡ true
  pub reached : b ≡ base_after s x n
  pub sides_length : length after.sides ≡ 512
  pub cycle_words : length after.cycle ≡ 8
  pub on_length : length after.on ≡ 512
  pub side_is : (v : ℕ) → get_or after.sides v Neither ≡ cond (passed s x n v) side (get_or before.sides v Neither)
  pub member : (v : ℕ) → has after.cycle v ≡ (passed s x n v || has before.cycle v)
  pub on_is : (c : ℕ) → get_or after.on c false ≡ (visited s x n c || get_or before.on c false)

-- the walk has ended at the base b
pub record Climbed (rows : List (List ℕ)) (s : Search) (x y : ℕ) (side : Side) (b : ℕ) (before after : Marks) : Type 0 where
  pub steps : ℕ
  pub marked : Marked rows s x y side steps b before after
  pub ended : goes_on rows s y b ≡ false

-- the walks from both ends have ended, that from x, which was the first, at the base b
pub record ClimbedBoth (rows : List (List ℕ)) (s : Search) (x y b : ℕ) (before after : Marks) : Type 0 where
  pub middle : Marks
  pub other : ℕ
  pub first : Climbed rows s x y First b before middle
  pub second : Climbed rows s y x Second other middle after

-- The colour that a request gets from the colours' latest ends.
use Rattle.std.specs.Prelude.{Option, Some, None, ℕ, zero, suc, ◌+◌, ◌≤◌, ◌<◌, max, List, [], ◌∷◌, cond, length, get_or, set, leb, ltb}

-- 0 for a latest end above a, else one more than the end: the greater the better
abbrev pub rank : ℕ → ℕ → ℕ
rank end a = cond (leb end a) (end + 1) 0

-- the best rank of the latest ends, where `top` is the best so far
abbrev pub best_rank : List ℕ → ℕ → ℕ → ℕ
best_rank [] a top = top
best_rank (end ∷ latest) a top = best_rank latest a (max top (rank end a))

-- the first colour of that rank: the list's first colour is c, and `at` the best so far
abbrev pub best_colour : List ℕ → ℕ → ℕ → ℕ → ℕ → ℕ
best_colour [] a top c at = at
best_colour (end ∷ latest) a top c at = best_colour latest a (max top (rank end a)) (c + 1) (cond (ltb top (rank end a)) c at)

-- no colour where the best rank is 0
abbrev pub choose : ℕ → ℕ → Option ℕ
choose zero c = None
choose (suc top) c = Some c

-- "the colour whose latest end is greatest among those not above a, the lowest colour on a tie"
unfoldable pub pick : List ℕ → ℕ → Option ℕ
pick latest a = choose (best_rank latest a 0) (best_colour latest a 0 0 0)

-- "that colour's latest end becomes b"
abbrev pub with_pick : List ℕ → Option ℕ → ℕ → List ℕ
with_pick latest (Some c) b = set latest c b
with_pick latest None b = latest

-- the sentence as a promise: c is a colour whose latest end is not above a, the greatest such, and the lowest colour with it
pub record BestFit (latest : List ℕ) (a c : ℕ) : Type 0 where
  pub inside : c < length latest
  pub fits : get_or latest c 0 ≤ a
  pub greatest : (d : ℕ) → d < length latest → get_or latest d 0 ≤ a → get_or latest d 0 ≤ get_or latest c 0
  pub lowest : (d : ℕ) → d < c → get_or latest d 0 ≤ a → get_or latest d 0 < get_or latest c 0

-- "If there is none": every latest end is above a
abbrev pub NoFit : List ℕ → ℕ → Type 0
NoFit latest a = (d : ℕ) → d < length latest → a < get_or latest d 0

-- what the rule asks of a pick
abbrev pub BestPick : List ℕ → ℕ → Option ℕ → Type 0
BestPick latest a (Some c) = BestFit latest a c
BestPick latest a None = NoFit latest a

-- the promise that the rule's pick is that
abbrev pub PickIsBest : Type 0
PickIsBest = (latest : List ℕ) (a : ℕ) → BestPick latest a (pick latest a)

-- the pick's colour, if there is one, is below w
abbrev pub Below : Option ℕ → ℕ → Type 0
Below (Some c) w = c < w
Below None w = Unit {0}

-- The chain part: the run of the rule over the order.
use Rattle.std.specs.Prelude.{Option, Some, None, ℕ, List, [], ◌∷◌, length, set, replicate}
use Rattle.ring.specs.declared.requests.Request.{Request}
use Rattle.ring.specs.declared.ways.Way.TheVariants.{Plain}
use Rattle.ring.specs.declared.fates.Fate.{Fate}
use Rattle.ring.specs.declared.fates.Fate.TheVariants.{Blocked, Served}
use Rattle.ring.specs.Requests.{request}
use Rattle.chain.specs.Order.{order}
use Rattle.chain.specs.Rule.{pick, with_pick}

-- "All requests go the plain way." "If there is none, the request is blocked."
abbrev pub plain_fate : Option ℕ → Fate
plain_fate (Some c) = Served Plain c
plain_fate None = Blocked

-- the pick of request i of R
abbrev pub pick_for : List Request → ℕ → List ℕ → Option ℕ
pick_for R i latest = pick latest (request R i).a

-- the latest ends after request i of R
abbrev pub latest_after : List Request → ℕ → List ℕ → List ℕ
latest_after R i latest = with_pick latest (pick_for R i latest) (request R i).b

-- the fates after the requests of these numbers are taken one by one, from the latest ends and the fates so far
abbrev pub chain_from : List Request → List ℕ → List ℕ → List Fate → List Fate
chain_from R [] latest F = F
chain_from R (i ∷ numbers) latest F = chain_from R numbers (latest_after R i latest) (set F i (plain_fate (pick_for R i latest)))

-- "Each colour has a latest end, 0 at first."
unfoldable pub chain_part : ℕ → ℕ → List Request → List Fate
chain_part n w R = chain_from R (order n R) (replicate w 0) (replicate (length R) Blocked)

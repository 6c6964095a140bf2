-- The links of the plan, request by request.
use Rattle.std.specs.Prelude.{ℕ, ◌≡◌, true, List}
use Rattle.ring.specs.declared.requests.Request.{Request}
use Rattle.ring.specs.declared.fates.Fate.{Fate}
use Rattle.ring.specs.declared.fates.Fate.TheVariants.{Blocked, Served}
use Rattle.links.specs.Links.{Held}

-- a request that is served has found the links of its way free in its colour and holds them; one that is blocked holds none
unfoldable pub Placed : List (List ℕ) → List (List ℕ) → Fate → Request → Type 0
Placed rows after Blocked r = after ≡ rows
Placed rows after (Served way colour) r = Held rows after way r colour true

-- Plans for a list of requests.
use Rattle.std.specs.Prelude.{ℕ, suc, ◌<◌, ◌≡◌, true, false, List, [], ◌∷◌, ◌≢◌, length, get_or}
use Rattle.ring.specs.declared.requests.Request.{Request}
use Rattle.ring.specs.declared.ways.Way.{Way}
use Rattle.ring.specs.declared.fates.Fate.{Fate}
use Rattle.ring.specs.declared.fates.Fate.TheVariants.{Blocked, Served}
use Rattle.ring.specs.Requests.{request}
use Rattle.ring.specs.Ways.{uses}
use Rattle.ring.specs.Fates.{fate_of}

-- the fate that a plan gives to a request
abbrev pub fate : List Fate → ℕ → Fate
fate F i = get_or F i Blocked

-- "What it serves is the number of requests not blocked."
unfoldable pub served : List Fate → ℕ
served [] = 0
served (Blocked ∷ F) = served F
served (Served way colour ∷ F) = suc (served F)

-- "feasible if no two requests served in one colour share a link", with fates in colours below w
pub record Feasible (n w : ℕ) (R : List Request) (F : List Fate) : Type 0 where
  pub each : length F ≡ length R
  pub colours : (i c : ℕ) (u : Way) → fate F i ≡ Served u c → c < w
  pub apart : (i j c : ℕ) (u v : Way) → i ≢ j → fate F i ≡ Served u c → fate F j ≡ Served v c → (link : ℕ) → link < n
      → uses u (request R i) link ≡ true → uses v (request R j) link ≡ false

-- "It keeps off a link if no served request's way uses that link."
abbrev pub KeepsOff : ℕ → List Request → List Fate → Type 0
KeepsOff link R F = (i c : ℕ) (u : Way) → fate F i ≡ Served u c → uses u (request R i) link ≡ false

-- fate numbers read as fates
abbrev pub fates_of : List ℕ → List Fate
fates_of [] = []
fates_of (k ∷ ks) = fate_of k ∷ fates_of ks

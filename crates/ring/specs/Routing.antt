-- The ways of a pair of compatible requests.
use Rattle.std.specs.Prelude.{ℕ, ◌≤◌, ◌<◌, ◌≡◌, Bool, true, false, cond, ◌&&◌, ◌||◌, eqb, ltb}
use Rattle.ring.specs.declared.requests.Request.{Request}
use Rattle.ring.specs.declared.ways.Way.{Way}
use Rattle.ring.specs.declared.ways.Way.TheVariants.{Plain, Seam}
use Rattle.ring.specs.Ways.{share_link, link_count}
use Rattle.ring.specs.Chords.{inside, compatible}

-- the seam way if the test holds, else the plain way
abbrev pub seam_if : Bool → Way
seam_if true = Seam
seam_if false = Plain

-- "joining the same two nodes, twins"
unfoldable pub twins : Request → Request → Bool
twins r s = eqb r.a s.a && eqb r.b s.b

-- "the way with fewer links, plain on a tie"
unfoldable pub shorter_way : ℕ → Request → Way
shorter_way n r = seam_if (ltb (link_count n Seam r) (link_count n Plain r))

-- the first: of twins "the way with fewer links", else "plain if no end of the other is strictly between its ends, otherwise by the seam"
unfoldable pub first_way : ℕ → Request → Request → Way
first_way n r s = cond (twins r s) (shorter_way n r) (seam_if (inside r s.a || inside r s.b))

-- "the other takes its one way that is disjoint from that"
unfoldable pub second_way : ℕ → Request → Request → Way
second_way n r s = seam_if (share_link n (first_way n r s) r Plain s)

-- "its one way that is disjoint from that": there is such a way, and no other
pub record OneDisjointWay (n : ℕ) (r s : Request) : Type 0 where
  pub disjoint : share_link n (first_way n r s) r (second_way n r s) s ≡ false
  pub only : (way : Way) → share_link n (first_way n r s) r way s ≡ false → way ≡ second_way n r s

-- the promise for every two compatible requests on n nodes
abbrev pub RoutingPromise : Type 0
RoutingPromise = (n : ℕ) (r s : Request) → r.a < r.b → r.b < n → s.a < s.b → s.b < n → compatible r s ≡ true → OneDisjointWay n r s

-- "the opposite" of a way
abbrev pub opposite : Way → Way
opposite Plain = Seam
opposite Seam = Plain

-- of twins the first takes "the way with fewer links, plain on a tie, and the other takes the opposite"
pub record TwinWays (n : ℕ) (r s : Request) : Type 0 where
  pub fewest : (way : Way) → link_count n (first_way n r s) r ≤ link_count n way r
  pub tie : link_count n Plain r ≡ link_count n Seam r → first_way n r s ≡ Plain
  pub other : second_way n r s ≡ opposite (first_way n r s)

-- the promise for every two twins on n nodes
abbrev pub TwinsPromise : Type 0
TwinsPromise = (n : ℕ) (r s : Request) → r.a < r.b → r.b < n → twins r s ≡ true → TwinWays n r s

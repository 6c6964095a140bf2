-- `search_all`: a search settles its root, and `settle_alone` all requests up to the next one.
use Prim.Native.Nat.{◌-◌}
use mathlib.Core.Path.{◌≡◌}
use lib.ListN.{length}
use Rattle.ring.specs.Requests.{requests_of}
use Rattle.matching.specs.Internal.Progress.{Rooted}
use Rattle.matching.specs.Internal.Search.{Square}
use Rattle.matching.proofs.roots.search_all.Given as goal

abbrev pub invariant-loop-r : goal.invariant-loop-r
invariant-loop-r l =
    Rooted (requests_of l.graph.ends.now) l.search.mates l.search.labels l.search.bases l.r × Square l.graph.count l.rows
    × (length l.search.parents ≡ 512) × (length l.search.queue ≡ 512)

abbrev pub decreases-loop-r : goal.decreases-loop-r
decreases-loop-r l = l.graph.count - l.r

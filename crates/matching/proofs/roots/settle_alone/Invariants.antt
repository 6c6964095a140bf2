-- Each open request that it passes is frozen as a search from it would; any other needs no search.
use Prim.Native.Nat.{◌≤◌}
use Rattle.ring.specs.Requests.{requests_of}
use Rattle.matching.specs.Internal.Progress.{Due}
use Rattle.matching.proofs.roots.settle_alone.Given as goal

abbrev pub invariant-loop-r : goal.invariant-loop-r
invariant-loop-r l = Due (requests_of l.graph.ends.now) l.mates l.labels l.bases l.r × (l.from ≤ l.r)

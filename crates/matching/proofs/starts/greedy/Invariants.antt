-- Every class keeps the matching; the bounds of the classes double.
use Prim.Native.Nat.{◌-◌, ◌<◌, ◌≤◌}
use Rattle.ring.specs.Requests.{requests_of}
use Rattle.matching.specs.Internal.Start.{Matched}
use Rattle.matching.proofs.starts.greedy.Given as goal

abbrev pub invariant-loop-low : goal.invariant-loop-low
invariant-loop-low l =
    (l.largest ≤ 512) × (l.spare < 64) × (0 < l.low) × (l.low ≤ 1024) × Matched (requests_of l.graph.ends.now) l.mates

abbrev pub decreases-loop-low : goal.decreases-loop-low
decreases-loop-low l = 1024 - l.low

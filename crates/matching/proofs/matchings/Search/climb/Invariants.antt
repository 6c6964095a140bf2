use Prim.Native.Nat.{◌-◌}
use Rattle.matching.specs.Internal.Climbs.{Marked}
use Rattle.matching.proofs.matchings.Search.climb.Given as goal

abbrev pub invariant-loop-side : goal.invariant-loop-side
invariant-loop-side l = Marked l.rows l.self l.x l.y l.side l.steps l.b l.initial.marks l.marks

abbrev pub decreases-loop-side : goal.decreases-loop-side
decreases-loop-side l = 512 - l.steps

-- The best so far is exposed by the test, and adjacent because it is in the set.
use mathlib.Core.Path.{◌≡◌}
use Rattle.std.specs.Prelude.{IfSome}
use Rattle.ring.specs.Requests.{requests_of}
use Rattle.neighbours.specs.Neighbours.{Neighbours}
use Rattle.matching.specs.Internal.Start.{Partner}
use Rattle.matching.proofs.starts.partner.Given as goal

abbrev pub invariant-loop-j : goal.invariant-loop-j
invariant-loop-j l =
    Neighbours (requests_of l.graph.ends.now) l.i l.j-iterator.words.now × (l.j-iterator.end ≡ l.graph.count)
    × IfSome l.best (λ j. Partner (requests_of l.graph.ends.now) l.mates l.i j)

-- Every turn keeps the matching.
use Rattle.ring.specs.Requests.{requests_of}
use Rattle.matching.specs.Internal.Start.{Matched}
use Rattle.matching.proofs.starts.pair_class.Given as goal

abbrev pub invariant-loop-i : goal.invariant-loop-i
invariant-loop-i l = Matched (requests_of l.graph.ends.now) l.mates

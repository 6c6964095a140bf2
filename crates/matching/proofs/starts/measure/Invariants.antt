-- One request more at each turn, and no set has more than 512 numbers.
use Prim.Native.Nat.{◌≤◌}
use mathlib.Core.Path.{◌≡◌}
use lib.ListN.{length}
use Rattle.ring.specs.Requests.{requests_of}
use Rattle.matching.specs.Internal.Start.{Measured}
use Rattle.matching.proofs.starts.measure.Given as goal

abbrev pub invariant-loop-i : goal.invariant-loop-i
invariant-loop-i l =
    (l.largest ≤ 512) × (length l.sizes ≡ 512) × Measured (requests_of l.graph.ends.now) l.i l.words l.sizes l.largest

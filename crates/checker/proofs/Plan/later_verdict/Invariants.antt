-- The requests from j on decide. Assumes nothing.
use Prim.Native.Nat.{◌-◌}
use mathlib.Core.Path.{◌≡◌}
use lib.ListN.{length}
use Rattle.ring.specs.Requests.{requests_of}
use Rattle.ring.specs.Internal.Sharing.{sharing}
use Rattle.ring.specs.Plans.{fates_of}
use Rattle.checker.specs.Check.{first_ground, pair_verdict, later_verdict}
use Rattle.checker.proofs.Plan.later_verdict.Given as goal

abbrev pub invariant-loop-j : goal.invariant-loop-j
invariant-loop-j l =
    first_ground (pair_verdict sharing (requests_of l.self.ends.now) (fates_of l.self.numbers.now) l.i) l.j
    (length (requests_of l.self.ends.now) - l.j)
    ≡ later_verdict sharing (requests_of l.self.ends.now) (fates_of l.self.numbers.now) l.i

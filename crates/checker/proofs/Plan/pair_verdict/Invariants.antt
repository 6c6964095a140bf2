-- The requests from i on decide. Assumes nothing.
use Prim.Native.Nat.{◌-◌}
use mathlib.Core.Path.{◌≡◌}
use lib.ListN.{length}
use Rattle.ring.specs.Requests.{requests_of}
use Rattle.ring.specs.Internal.Sharing.{sharing}
use Rattle.ring.specs.Plans.{fates_of}
use Rattle.checker.specs.Check.{first_ground, later_verdict, pair_verdicts}
use Rattle.checker.proofs.Plan.pair_verdict.Given as goal

abbrev pub invariant-loop-i : goal.invariant-loop-i
invariant-loop-i l =
    first_ground (later_verdict sharing (requests_of l.self.ends.now) (fates_of l.self.numbers.now)) l.i
    (length (requests_of l.self.ends.now) - l.i)
    ≡ pair_verdicts sharing (requests_of l.self.ends.now) (fates_of l.self.numbers.now)

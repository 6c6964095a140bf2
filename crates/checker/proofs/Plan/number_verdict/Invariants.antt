-- The numbers from i on decide. Assumes nothing.
use Prim.Native.Nat.{◌-◌}
use mathlib.Core.Path.{◌≡◌}
use lib.ListN.{length}
use Rattle.checker.specs.Check.{first_ground, number_verdict, number_verdicts}
use Rattle.checker.proofs.Plan.number_verdict.Given as goal

abbrev pub invariant-loop-i : goal.invariant-loop-i
invariant-loop-i l =
    first_ground (number_verdict l.w l.self.numbers.now) l.i (length l.self.numbers.now - l.i) ≡ number_verdicts l.w l.self.numbers.now

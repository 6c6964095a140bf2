-- At the head of the loop the verdict on the requests from i on is that on all of them.
use Prim.Native.Nat.{◌*◌}
use mathlib.Core.Path.{◌≡◌}
use lib.ListN.{length, drop}
use Rattle.std.specs.Prelude.{Ok}
use Rattle.ring.specs.Admission.{request_verdicts, count_verdict}
use Rattle.ring.proofs.requests.list_verdict.Given as goal

abbrev pub invariant-loop-i : goal.invariant-loop-i
invariant-loop-i l =
    (request_verdicts l.n l.i (drop (2 * l.i) l.ends) ≡ request_verdicts l.n 0 l.ends) × (count_verdict (length l.ends) ≡ Ok tt)

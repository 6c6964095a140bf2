-- The requests below i hold their links, and no two of them are in conflict. Assumes nothing.
use Rattle.ring.specs.Requests.{requests_of}
use Rattle.ring.specs.Plans.{fates_of}
use Rattle.checker.proofs.PlacingLaws.{Disjoint}
use Rattle.checker.proofs.Plan.is_disjoint.Given as goal

abbrev pub invariant-loop-i : goal.invariant-loop-i
invariant-loop-i l = Disjoint (requests_of l.self.ends.now) (fates_of l.self.numbers.now) l.held l.i

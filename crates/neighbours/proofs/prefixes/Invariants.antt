-- The invariants: the requests below i stand behind their ends; the sets of the nodes up to x are done.
use Rattle.ring.specs.Requests.{requests_of}
use Rattle.neighbours.proofs.PrefixLaws.{Behind, Done}
use Rattle.neighbours.proofs.prefixes.Given as goal

abbrev pub invariant-loop-i : goal.invariant-loop-i
invariant-loop-i l = Behind (requests_of l.ends) l.sets l.i

abbrev pub invariant-loop-x : goal.invariant-loop-x
invariant-loop-x l = Done (requests_of l.ends) l.sets l.x

use native.Mathlib.Omega.{arith}
use Rattle.ring.proofs.RequestLaws.{requests_length}
use Rattle.neighbours.proofs.Graph.new.Goals as goal

pub invariant_of-result : goal.invariant_of-result
invariant_of-result c = record {
  counted = omega (arith, requests_length c.args.ends.now);
  valid = c.requires.0;
  prefixes = c.requires.1;
}

use native.Mathlib.Omega.{arith}
use Rattle.ring.specs.Requests.{requests_of}
use Rattle.ring.proofs.FateLaws.{number_within}
use Rattle.planner.proofs.WriteLaws.{pair_written}
use Rattle.planner.proofs.pairs.Call.put_pair.Goals as goal

pub first_way-first-requires : goal.first_way-first-requires
first_way-first-requires c =
    let valid = c.args.self.now.within.valid in
    rw c.request_at-r.ensures (omega (arith, valid.ordered c.args.i c.requires.first), omega (arith, valid.nodes c.args.i c.requires.first))

pub number-requires : goal.number-requires
number-requires c = omega (arith, number_within c.first_way-first.result c.args.colour 128 c.requires.colour)

pub number-requires-2 : goal.number-requires-2
number-requires-2 c = omega (arith, number_within c.other_way-second.result c.args.colour 128 c.requires.colour)

pub returns : goal.returns
returns c =
    pair_written c.args.self.now.ring.nodes (requests_of c.args.self.now.ends.now) c.args.i c.args.j _ c.args.table.now _ _ _ _ _ _
    c.request_at-r.ensures c.request_at-s.ensures
    c.first_way-first.ensures c.other_way-second.ensures c.number.ensures c.number-2.ensures

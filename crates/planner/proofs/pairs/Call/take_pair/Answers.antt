use native.Mathlib.Omega.{arith}
use Rattle.ring.specs.Requests.{requests_of}
use Rattle.planner.proofs.WriteLaws.{not_lower, no_colour, both_take}
use Rattle.planner.proofs.pairs.Call.take_pair.Goals as goal
use Rattle.planner.proofs.pairs.Call.take_pair.Goals.{then-j-i-via-then-j-i, then-j-i-via-else-j-i+then-self-colour}

pub returns-then-j-i : goal.returns-then-j-i
returns-then-j-i c =
    let call = c.args.self.now in
    let R = requests_of call.ends.now in
    elim c.then-j-i.branch [
      | then-j-i-via-then-j-i w ↦
          not_lower call.ring.nodes call.ring.colours R c.args.i c.args.j c.args.colour c.args.table.now w.if-j-i.true
      | then-j-i-via-else-j-i+then-self-colour w ↦
          no_colour call.ring.nodes call.ring.colours R c.args.i c.args.j c.args.colour c.args.table.now
          w.if-j-i.false w.if-self-colour.true
    ]

pub put_pair-requires : goal.put_pair-requires
put_pair-requires c =
    record {
      first = c.requires.first;
      second = c.requires.second c.if-j-i.false;
      colour = omega (arith, c.args.self.now.within.colours);
      room = c.requires.room;
    }

pub returns : goal.returns
returns c =
    let call = c.args.self.now in
    both_take call.ring.nodes call.ring.colours (requests_of call.ends.now) c.args.i c.args.j c.args.colour c.args.table.now _
    c.if-j-i.false c.if-self-colour.false c.put_pair.ensures

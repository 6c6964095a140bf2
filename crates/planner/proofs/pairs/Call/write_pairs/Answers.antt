use Prim.Native.Nat.{◌/◌}
use mathlib.Core.Path.{sym, ◌∙◌}
use native.Mathlib.Omega.{arith}
use lib.ListN.{length, take}
use Rattle.ring.specs.Requests.{requests_of}
use Rattle.planner.proofs.WriteLaws.{mate_fits, cleared_length, cleared_written, written_again, written_ended}
use Rattle.planner.proofs.pairs.Call.write_pairs.Goals as goal

pub clear-requires : goal.clear-requires
clear-requires c = omega (arith, c.requires.room, c.args.self.now.within.even)

pub take_pair-colour-requires : goal.take_pair-colour-requires
take_pair-colour-requires c =
    let call = c.args.self.now in
    let same = cleared_length call.ring.nodes call.ring.colours call.ends.now c.args.mates.now c.args.table.now call.within c.requires _
    c.clear.ensures in
    mate_fits call.ring.nodes call.ring.colours call.ends.now c.args.mates.now c.args.table.now call.within c.requires
    c.loop-i.i _ c.loop-i.table (omega arith) (omega (arith, same)) c.from.ensures

pub loop-i-preserved : goal.loop-i-preserved
loop-i-preserved c =
    let call = c.args.self.now in
    let here = c.loop-i in
    written_again call.ring.nodes call.ring.colours (requests_of call.ends.now) here.i here.colour
    (take (length call.ends.now / 2) c.args.mates.now) here.table _ c.take_pair-colour.result _ _ (omega arith)
    c.from.ensures c.take_pair-colour.ensures.0 c.take_pair-colour.ensures.1 here.invariant

pub returns : goal.returns
returns c =
    let call = c.args.self.now in
    let here = c.loop-i in
    let mates = take (length call.ends.now / 2) c.args.mates.now in
    sym (written_ended call.ring.nodes call.ring.colours (requests_of call.ends.now) here.i here.colour mates here.table (omega arith))
    ∙ (here.invariant ∙ cleared_written call.ring.nodes call.ring.colours call.ends.now c.args.mates.now
    c.args.table.now call.within c.requires _ c.clear.ensures)

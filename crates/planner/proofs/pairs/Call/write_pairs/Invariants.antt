-- The requests from i on lead to the whole. Assumes nothing.
use mathlib.Core.Path.{◌≡◌}
use lib.ListN.{drop, take}
use Rattle.ring.specs.Requests.{requests_of}
use Rattle.planner.specs.Internal.Writing.{written_from}
use Rattle.planner.proofs.pairs.Call.write_pairs.Given as goal

abbrev pub invariant-loop-i : goal.invariant-loop-i
invariant-loop-i l =
    written_from l.self.ring.nodes l.self.ring.colours (requests_of l.self.ends.now) l.i l.colour (drop l.i (take l.m l.mates)) l.table
    ≡ written_from l.self.ring.nodes l.self.ring.colours (requests_of l.self.ends.now) 0 0 (take l.m l.mates) l.initial.table

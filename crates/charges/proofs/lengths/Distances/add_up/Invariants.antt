use Rattle.std.proofs.Common.{◌≡◌, length, take}
use Rattle.charges.specs.Promises.{total}
use Rattle.charges.specs.Internal.Distances.{AddedUpTo}
use Rattle.charges.proofs.lengths.Distances.add_up.Given as goal

abbrev pub invariant-loop-i : goal.invariant-loop-i
invariant-loop-i l =
    (length l.entries ≡ 257) × (l.metres ≡ total (take l.i l.lengths)) × AddedUpTo l.i l.lengths l.entries

-- The loop's invariant: the sum so far, and that of the bytes from i on, are the sum of all.
use Rattle.std.proofs.Common.{◌≡◌, ◌+◌, ◌*◌, ◌≤◌, drop}
use Rattle.stored.specs.Blocks.{weighted}
use Rattle.stored.proofs.blocks.check_of.Given as goal

abbrev pub invariant-loop-i : goal.invariant-loop-i
invariant-loop-i l = (l.sum ≤ 130050 * l.i) × (l.sum + weighted l.i (drop l.i l.weighed) ≡ weighted 0 l.weighed)

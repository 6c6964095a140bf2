-- The loop's invariant: none of the first blocks has a wrong number or check.
use Rattle.std.proofs.Common.{◌≡◌, true}
use Rattle.stored.specs.Reading.{blocks_right}
use Rattle.stored.proofs.readers.blocks_right.Given as goal

abbrev pub invariant-loop-block : goal.invariant-loop-block
invariant-loop-block l = blocks_right l.bytes l.block ≡ true

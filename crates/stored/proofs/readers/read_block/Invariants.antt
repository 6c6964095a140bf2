-- The loop's invariant: the book has the first i circuits of the block behind those that it had.
use Rattle.std.proofs.Common.{◌≡◌}
use Rattle.stored.specs.Reading.{records_in}
use Rattle.stored.specs.Internal.Handing.{extended}
use Rattle.stored.proofs.readers.read_block.Given as goal

abbrev pub invariant-loop-i : goal.invariant-loop-i
invariant-loop-i l = l.book ≡ extended l.initial.book (records_in l.form l.block l.i)

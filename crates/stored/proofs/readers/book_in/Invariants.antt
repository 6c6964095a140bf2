-- The loop's invariant: the book has the circuits of the later blocks below this one.
use Rattle.std.proofs.Common.{◌≡◌, ◌-◌}
use Rattle.book.specs.Books.{book_of}
use Rattle.stored.specs.Blocks.{word_at}
use Rattle.stored.specs.Reading.{part_of, circuits_in}
use Rattle.stored.proofs.readers.book_in.Given as goal

abbrev pub invariant-loop-block : goal.invariant-loop-block
invariant-loop-block l =
    l.book ≡ book_of (word_at (part_of l.bytes 0) 0) (word_at (part_of l.bytes 0) 2) (word_at (part_of l.bytes 0) 4)
    (circuits_in l.form l.bytes l.total (l.block - 1))

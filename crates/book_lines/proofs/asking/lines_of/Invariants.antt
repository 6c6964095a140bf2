-- The loop's invariant: the lines that were read are in the bundle.
use Rattle.std.proofs.Common.{◌-◌}
use Rattle.book_lines.proofs.AskingLaws.{Reading}
use Rattle.book_lines.proofs.asking.lines_of.Given as goal

abbrev pub invariant-loop : goal.invariant-loop
invariant-loop l = Reading l.text l.reader (128 - l.counter) l.bundle

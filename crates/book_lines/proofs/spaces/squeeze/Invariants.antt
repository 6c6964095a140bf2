-- The loop's invariant: the text holds the first bytes of the line, squeezed, and what the rest adds makes it the whole line's.
use Rattle.std.proofs.Common.{◌≡◌, ◌≤◌, drop}
use Rattle.book_lines.specs.Lines.{squeezed}
use Rattle.book_lines.specs.Internal.Squeezing.{used, squeezing}
use Rattle.book_lines.proofs.spaces.squeeze.Given as goal

abbrev pub invariant-loop-byte : goal.invariant-loop-byte
invariant-loop-byte l =
    (used l.so ≤ l.byte-index) × (squeezing l.so l.text (drop l.byte-index l.line) ≡ squeezed l.line)

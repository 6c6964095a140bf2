use Prim.Native.Nat.{◌+◌, ◌*◌, ◌-◌, ◌≤◌}
use mathlib.Core.Path.{◌≡◌}
use lib.ListN.{length, take}
use Rattle.charges_text.specs.Reading.{lengths_from, lengths_of}
use Rattle.charges_text.proofs.reading.length_lines.Given as goal

abbrev pub invariant-loop-reader : goal.invariant-loop-reader
invariant-loop-reader l =
    (2 * l.count + length l.reader ≤ length l.initial.reader)
    × (length l.buffer ≡ length l.initial.buffer)
    × (lengths_from (take l.count l.buffer) (length l.initial.reader - l.count) l.reader ≡ lengths_of l.initial.reader)

abbrev pub decreases-loop-reader : goal.decreases-loop-reader
decreases-loop-reader l = length l.reader

use Prim.Native.Nat.{◌+◌, ◌*◌, ◌-◌, ◌≤◌}
use mathlib.Core.Path.{◌≡◌}
use mathlib.Core.List.{[]}
use lib.ListN.{length, take}
use Rattle.check_text.specs.Reading.{numbers_from}
use Rattle.check_text.proofs.reading.table_lines.Given as goal

abbrev pub invariant-loop-i : goal.invariant-loop-i
invariant-loop-i l =
    (2 * l.i + length l.ahead ≤ length l.initial.ahead)
    × (length l.buffer ≡ length l.initial.buffer)
    × (numbers_from (take l.i l.buffer) (l.m - l.i) l.ahead ≡ numbers_from [] l.m l.initial.ahead)

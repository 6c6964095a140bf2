use Prim.Native.Nat.{◌+◌, ◌*◌, ◌-◌, ◌≤◌}
use mathlib.Core.Path.{◌≡◌}
use mathlib.Core.List.{[]}
use lib.ListN.{length, take}
use Rattle.plan_text.specs.Reading.{lines_from}
use Rattle.plan_text.proofs.reading.request_lines.Given as goal

abbrev pub invariant-loop-i : goal.invariant-loop-i
invariant-loop-i l =
    (4 * l.i + length l.ahead ≤ length l.initial.ahead)
    × (length l.buffer ≡ length l.initial.buffer)
    × (lines_from (take (2 * l.i) l.buffer) (l.m - l.i) l.ahead ≡ lines_from [] l.m l.initial.ahead)

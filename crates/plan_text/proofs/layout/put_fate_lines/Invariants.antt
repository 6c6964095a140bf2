use Prim.Native.Nat.{◌*◌, ◌-◌}
use lib.ListN.{length, take}
use Rattle.ring.specs.Plans.{fates_of}
use Rattle.plan_text.specs.Layout.{fate_lines}
use Rattle.texts.specs.Internal.Writing.{Room, Wrote}
use Rattle.plan_text.proofs.layout.put_fate_lines.Given as goal

abbrev pub invariant-loop-i : goal.invariant-loop-i
invariant-loop-i l = Room (14 * (length l.table - l.i)) l.writer × Wrote l.initial.writer (fate_lines 0 (fates_of (take l.i l.table))) l.writer

-- The entries before the index are done. Assumes nothing.
use Prim.Native.Nat.{◌≤◌}
use mathlib.Core.Path.{◌≡◌}
use mathlib.Core.List.{◌++◌}
use lib.ListN.{take, drop}
use Rattle.planner.specs.Internal.Filling.{given_out}
use Rattle.planner.proofs.spares.fill.Given as goal

abbrev pub invariant-loop-number : goal.invariant-loop-number
invariant-loop-number l =
    (l.spare ≤ l.initial.spare)
    × (take l.number-index l.table ++ given_out l.w l.spare (drop l.number-index l.table) ≡ given_out l.w l.initial.spare l.initial.table)

use Prim.Native.Nat.{◌≤◌, ◌<◌}
use mathlib.Core.Path.{◌≡◌}
use lib.ListN.{drop}
use Rattle.texts.specs.Fields.{field_from}
use Rattle.texts.proofs.DecimalLaws.{tens}
use Rattle.texts.proofs.fields.number.Given as goal

abbrev pub invariant-loop-count : goal.invariant-loop-count
invariant-loop-count l =
    (l.count ≤ l.most)
    × (l.value < tens l.count)
    × (field_from l.most l.limit l.close l.count l.value (drop l.count l.text) ≡ field_from l.most l.limit l.close 0 0 l.text)

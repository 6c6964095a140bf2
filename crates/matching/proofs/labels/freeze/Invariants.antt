use mathlib.Core.Path.{◌≡◌}
use lib.ListN.{length}
use Rattle.matching.specs.Internal.Labelling.{frozen}
use Rattle.matching.proofs.LabellingLaws.{Relabelling}
use Rattle.matching.proofs.labels.freeze.Given as goal

abbrev pub invariant-loop-z : goal.invariant-loop-z
invariant-loop-z l = (length l.labels ≡ 512) × Relabelling frozen l.initial.labels l.labels l.z

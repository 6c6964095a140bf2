use mathlib.Core.Path.{◌≡◌}
use lib.ListN.{length}
use Rattle.matching.specs.Internal.Labelling.{unlabelled}
use Rattle.matching.proofs.LabellingLaws.{Relabelling}
use Rattle.matching.proofs.labels.unlabel.Given as goal

abbrev pub invariant-loop-z : goal.invariant-loop-z
invariant-loop-z l = (length l.labels ≡ 512) × Relabelling unlabelled l.initial.labels l.labels l.z

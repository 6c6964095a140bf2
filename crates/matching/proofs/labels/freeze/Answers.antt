use native.Mathlib.Omega.{arith}
use lib.ListN.{length-set}
use Rattle.matching.specs.Internal.Labelling.{frozen}
use Rattle.matching.proofs.LabellingLaws.{relabelling_start, relabelling_turn, relabelling_end}
use Rattle.matching.proofs.labels.freeze.Goals as goal

pub loop-z-init : goal.loop-z-init
loop-z-init c = (c.told-labels, relabelling_start frozen _)

pub loop-z-preserved : goal.loop-z-preserved
loop-z-preserved c =
    let here = c.loop-z.invariant in
    (simp length-set here.0, relabelling_turn frozen _ _ _ _ (omega (arith, here.0)) c.frozen.ensures here.1)

pub returns : goal.returns
returns c = relabelling_end frozen _ _ c.loop-z.z _ (omega arith) c.loop-z.invariant.1

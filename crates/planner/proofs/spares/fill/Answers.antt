use mathlib.Core.Path.{sym, ◌∙◌}
use native.Mathlib.Omega.{arith}
use Rattle.planner.proofs.SpareLaws.{given_turn, given_ended, given_all}
use Rattle.planner.proofs.spares.fill.Goals as goal

pub loop-number-preserved : goal.loop-number-preserved
loop-number-preserved c =
    let here = c.loop-number in
    let turn = given_turn c.args.w here.spare here.number-index here.table c.take_spare-spare.result _ _ (omega arith)
    c.take_spare-spare.ensures.0 c.take_spare-spare.ensures.1 here.invariant.1 in
    (omega (arith, turn.0), turn.1)

pub returns : goal.returns
returns c =
    let here = c.loop-number in
    sym (given_ended c.args.w here.spare here.number-index here.table (omega arith))
    ∙ (here.invariant.1 ∙ given_all c.args.w c.args.spare c.args.table.now c.requires.1)

use Rattle.std.proofs.Common.{sym, ◌∙◌}
use Rattle.stored.proofs.ReadLaws.{part_is, right_next, wrong_stays}
use Rattle.stored.proofs.readers.blocks_right.Goals as goal

pub returns-then-not-block_right : goal.returns-then-not-block_right
returns-then-not-block_right c =
    let bytes = c.args.bytes.now in
    let block = c.loop-block.block in
    sym (wrong_stays bytes _ block _ c.loop-block-test.true (part_is bytes block) (sym c.block_right.ensures ∙ c.if-not-block_right.true))

pub loop-block-preserved : goal.loop-block-preserved
loop-block-preserved c =
    let bytes = c.args.bytes.now in
    let block = c.loop-block.block in
    right_next bytes _ block (part_is bytes block) c.loop-block.invariant (sym c.block_right.ensures ∙ c.if-not-block_right.false)

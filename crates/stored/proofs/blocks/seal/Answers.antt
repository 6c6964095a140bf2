use Rattle.stored.proofs.BlockLaws.{sealed_steps}
use Rattle.stored.proofs.blocks.seal.Goals as goal

pub returns : goal.returns
returns c =
    let a = c.args in
    sealed_steps a.number c.check_of-check.result a.block.now
    c.put_word.new.bytes c.put_word-2.new.bytes
    c.put_word.ensures
    c.check_of-check.ensures c.put_word-2.ensures

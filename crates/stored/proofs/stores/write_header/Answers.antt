use Rattle.stored.proofs.BlockLaws.{header_steps}
use Rattle.stored.proofs.stores.write_header.Goals as goal

pub returns : goal.returns
returns c =
    header_steps c.args.form c.args.book.now _ _ c.args.block.now
    c.fill.new.self
    c.put_word.new.bytes
    c.put_word-2.new.bytes c.put_word-3.new.bytes
    c.put_word-4.new.bytes
    c.put_word-5.new.bytes c.seal.new.block
    c.requires (c.fill.ensures.after (λ y e. e))
    c.record_count.ensures.0 c.mark.ensures
    c.put_word.ensures
    c.put_word-2.ensures c.put_word-3.ensures
    c.put_word-4.ensures
    c.put_word-5.ensures c.seal.ensures

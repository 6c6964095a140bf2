use Rattle.stored.proofs.BlockLaws.{field_steps}
use Rattle.stored.proofs.stores.put_fields.Goals as goal

pub returns : goal.returns
returns c =
    field_steps c.args.circuit c.args.at c.fate_field.result c.args.block.now
    c.put_word.new.bytes c.put_word-2.new.bytes
    c.put_word-3.new.bytes c.put_word-4.new.bytes
    c.requires c.fate_field.ensures
    c.put_word.ensures c.put_word-2.ensures
    c.put_word-3.ensures c.put_word-4.ensures

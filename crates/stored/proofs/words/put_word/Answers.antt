use Rattle.std.proofs.Common.{◌≡◌, ◌∙◌}
use native.Mathlib.Omega.{arith}
use Rattle.stored.specs.Blocks.{word}
use Rattle.stored.proofs.Lists.{part_written}
use Rattle.stored.proofs.words.put_word.Goals as goal

pub returns : goal.returns
returns c =
    let new : c.copy_from_slice.new.self ≡ word c.args.x = c.copy_from_slice.ensures.after ∙ c.to_le_bytes.ensures in
    rw new (part_written c.args.bytes.now (word c.args.x) c.args.at _ (omega arith))

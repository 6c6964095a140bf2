use mathlib.Core.Path.{refl}
use Rattle.std.proofs.Common.{rules}
use Rattle.texts.proofs.OutputLaws.{output_written}
use Rattle.charges_text.proofs.answers.answer.Goals as goal

pub returns : goal.returns
returns c =
    let out = output_written {least = 16384} c.if-out-lt16384.false refl c.new-writer.ensures.begun c.put_answer.ensures in
    search rules

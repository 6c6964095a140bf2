use mathlib.Core.Path.{ap}
use Rattle.std.proofs.Common.{rules}
use Rattle.texts.proofs.OutputLaws.{output_written}
use Rattle.check_text.specs.Promise.{line_for}
use Rattle.check_text.specs.Verdict.{verdict_line}
use Rattle.check_text.proofs.answers.answer.Goals as goal

pub returns : goal.returns
unfolding line_for
returns c =
    let line = ap verdict_line c.text_answer.ensures in
    let out = output_written {least = 32} c.if-out-lt32.false line c.new-writer.ensures.begun c.put_verdict.ensures in
    search rules

use Rattle.std.proofs.Common.{rules}
use Rattle.plan_text.proofs.AnswerLaws.{answer_printed}
use Rattle.plan_text.proofs.answers.answer.Goals as goal

pub returns : goal.returns
returns c =
    let printed = answer_printed c.if-out-lt8192.false c.new-writer.ensures.begun c.put_answer.ensures in
    search rules

use Rattle.std.proofs.Common.{option_copied, refl}
use Rattle.book_text.proofs.ObeyLaws.{command_answered, reply_valid}
use Rattle.book_text.proofs.obeying.obey_by_file.Goals as goal

pub put_reply-requires-clause-valid : goal.put_reply-requires-clause-valid
put_reply-requires-clause-valid c =
    reply_valid (option_copied c.args.file) _ _ c.find-contents.ensures c.answer-answered.ensures

pub returns-in-Some-clause-told : goal.returns-in-Some-clause-told
returns-in-Some-clause-told c =
    let s = c.args in
    rw (← command_answered (option_copied s.file) s.command c.find-contents.ensures c.answer-answered.ensures) c.put_reply.ensures

pub returns-in-Some-clause-stored : goal.returns-in-Some-clause-stored
returns-in-Some-clause-stored c =
    let s = c.args in
    rw (← command_answered (option_copied s.file) s.command c.find-contents.ensures c.answer-answered.ensures, c.in-Some.is)
    c.put_form.ensures.told

pub returns-in-None-clause-told : goal.returns-in-None-clause-told
returns-in-None-clause-told c =
    let s = c.args in
    rw (← command_answered (option_copied s.file) s.command c.find-contents.ensures c.answer-answered.ensures) c.put_reply.ensures

pub returns-in-None-clause-stored : goal.returns-in-None-clause-stored
returns-in-None-clause-stored c =
    let s = c.args in
    rw (← command_answered (option_copied s.file) s.command c.find-contents.ensures c.answer-answered.ensures, c.in-None.is) refl

use Rattle.std.proofs.Common.{option_copied, refl, rules}
use Rattle.book_text.proofs.ObeyLaws.{answer_is, obey_done}
use Rattle.book_text.proofs.obeying.obey.Goals as goal

pub returns : goal.returns
returns c =
    let s = c.args in
    let same = answer_is (option_copied s.file) s.line.now refl c.read-heard.ensures.command (λ v. refl) in
    let told = c.obey_command-stored.ensures in
    let done = obey_done (option_copied s.file) s.line.now s.reply.now s.form.now {stored = c.obey_command-stored.result}
    c.if-reply-lt16384.false c.if-form-lt7168.false same c.read-heard.ensures.heard c.new-writer.ensures.begun
    told.told c.len.ensures told.stored told.within in
    search rules

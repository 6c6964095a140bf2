use Rattle.std.proofs.Common.{refl}
use Rattle.book_text.proofs.ObeyLaws.{aside_answered}
use Rattle.book_text.proofs.obeying.obey_command.Goals as goal

pub returns-in-Aside-clause-told : goal.returns-in-Aside-clause-told
returns-in-Aside-clause-told c = rw (c.in-Aside.is, aside_answered _ _) c.put_aside.ensures

pub returns-in-Aside-clause-stored : goal.returns-in-Aside-clause-stored
returns-in-Aside-clause-stored c = rw (c.in-Aside.is, aside_answered _ _) refl

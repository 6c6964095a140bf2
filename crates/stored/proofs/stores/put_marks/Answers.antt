use Rattle.std.proofs.Common.{sym, ◌∙◌, ap, length}
use native.Mathlib.Omega.{arith}
use Rattle.ring.specs.Buffers.{written}
use Rattle.ring.proofs.BufferLaws.{written_none}
use Rattle.stored.specs.declared.forms.Form.{Form}
use Rattle.stored.specs.Forms.{marks_bytes}
use Rattle.stored.proofs.BlockLaws.{mark_steps}
use Rattle.stored.proofs.stores.put_marks.Goals as goal

pub returns-in-New : goal.returns-in-New
returns-in-New c =
    let s = c.args in
    let new = c.in-New.is in
    mark_steps s.circuit s.at c.state_number.result s.block.now
    c.put_word.new.bytes
    c.put_word-in-New.new.bytes (omega (arith, ap (λ (f : Form). length (marks_bytes f s.circuit)) new))
    c.state_number.ensures c.put_word.ensures
    c.put_word-in-New.ensures
    ∙ ap (λ (f : Form). written s.block.now s.at (marks_bytes f s.circuit)) (sym new)

pub returns-in_default : goal.returns-in_default
returns-in_default c =
    let s = c.args in
    written_none s.block.now s.at
    ∙ ap (λ (f : Form). written s.block.now s.at (marks_bytes f s.circuit)) (sym c.in_default.is)

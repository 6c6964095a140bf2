use native.Mathlib.Omega.{arith}
use Rattle.stored.proofs.FormLaws.{marks_length}
use Rattle.stored.proofs.BlockLaws.{record_steps}
use Rattle.stored.proofs.stores.put_record.Goals as goal

pub returns : goal.returns
returns c =
    let a = c.args in
    record_steps a.form a.circuit a.at a.block.now c.put_fields.new.block
    c.put_marks.new.block (omega (arith, marks_length a.form a.circuit, c.requires))
    c.put_fields.ensures c.put_marks.ensures

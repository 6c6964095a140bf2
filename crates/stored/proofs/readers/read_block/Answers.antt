use Rattle.std.proofs.Common.{◌<◌, ◌+◌, refl, ◌∙◌, ap}
use native.Mathlib.Omega.{arith}
use Rattle.stored.specs.Forms.{block_records}
use Rattle.stored.specs.Reading.{circuit_at}
use Rattle.stored.proofs.FormLaws.{place_fits}
use Rattle.stored.proofs.ReadLaws.{extended_next}
use Rattle.stored.proofs.readers.read_block.Goals as goal

pub circuit_at-requires : goal.circuit_at-requires
circuit_at-requires c =
    let here : c.loop-i.i < block_records c.args.form = omega arith in
    omega (arith, place_fits c.args.form c.loop-i.i here, c.requires.size)

pub loop-i-preserved : goal.loop-i-preserved
loop-i-preserved c =
    let l = c.loop-i in
    let first = c.record_count-first in
    let room : first.result + l.i < 512 = omega (arith, c.requires.most) in
    extended_next c.args.form c.args.book.now c.args.block.now l.book first.result l.i _ c.circuit_at.result l.invariant
    first.ensures.0 room refl (c.circuit_at.ensures ∙ ap (circuit_at c.args.form c.args.block.now) c.record_place.ensures)

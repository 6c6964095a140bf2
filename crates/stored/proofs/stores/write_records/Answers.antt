use Rattle.std.proofs.Common.{ℕ, ◌≤◌, ◌<◌, ◌-◌, length, replicate, sym, ◌∙◌, ap}
use native.Mathlib.Omega.{arith}
use Rattle.stored.specs.Blocks.{block_of}
use Rattle.stored.specs.Forms.{block_records, circuits_of}
use Rattle.stored.proofs.Lists.{pad_none}
use Rattle.stored.proofs.FormLaws.{place_fits}
use Rattle.stored.proofs.RecordLaws.{record_next, records_sealed, share, share_few, share_at, later_contents}
use Rattle.stored.proofs.stores.write_records.Goals as goal

pub loop-i-init : goal.loop-i-init
loop-i-init c =
    c.fill.ensures.after (λ y e. e) ∙ ap (λ (j : ℕ). replicate j 0) c.requires.size ∙ sym pad_none

pub put_record-requires : goal.put_record-requires
put_record-requires c =
    let here : c.loop-i.i < block_records c.args.form = omega arith in
    omega (arith, place_fits c.args.form c.loop-i.i here, c.requires.size)

pub loop-i-preserved : goal.loop-i-preserved
loop-i-preserved c =
    let l = c.loop-i in
    let form = c.args.form in
    let b = c.args.book.now in
    let k = c.args.number - 1 in
    let h : l.i < length (circuits_of form b k) = omega (arith, share form b k, c.record_count.ensures.0) in
    c.put_record.ensures
    ∙ rw (c.record_place.ensures, c.first_record-first.ensures, sym (share_at form b k l.i h))
    (record_next form (circuits_of form b k) l.i l.block h (share_few form b k) l.invariant)

pub returns : goal.returns
returns c =
    let l = c.loop-i in
    let form = c.args.form in
    let b = c.args.book.now in
    let k = c.args.number - 1 in
    let all : length (circuits_of form b k) ≤ l.i = omega (arith, share form b k, c.record_count.ensures.0) in
    c.seal.ensures
    ∙ records_sealed form c.args.number (circuits_of form b k) l.i l.block all (share_few form b k) l.invariant
    ∙ ap (block_of c.args.number) (sym (later_contents form b c.args.number c.requires.from))

use Rattle.std.proofs.Common.{◌≤◌, ◌-◌, ◌*◌, length, drop, ◌∙◌, ap}
use native.Mathlib.Omega.{arith}
use borrow.Author.Rules.{rules}
use lib.Seq.{length-take-le}
use Rattle.book.specs.Books.{records_of}
use Rattle.stored.specs.Forms.{stored_length}
use Rattle.stored.specs.Storing.{length_of}
use Rattle.stored.proofs.FormLaws.{later_begun, length_small}
use Rattle.stored.proofs.StoreLaws.{part_length, started, block_next, store_short, store_answer_lem, store_done, stored_block_length}
use Rattle.stored.proofs.stores.write_form.Goals as goal

pub returns-then-buffer-length : goal.returns-then-buffer-length
returns-then-buffer-length c =
    let whole = c.stored_length-length.ensures ∙ ap (stored_length c.args.form) c.record_count.ensures.0 in
    let few = length_small c.args.form c.record_count.result c.record_count.ensures.1 in
    let told = store_short c.args.form c.args.book.now c.args.buffer.now (omega (arith, whole)) in
    (told.0, told.1, omega (arith, few, c.record_count.ensures.0))

pub slice_bounds-write_header-end-2 : goal.slice_bounds-write_header-end-2
slice_bounds-write_header-end-2 c =
    let room : 512 ≤ length c.args.buffer.now = omega (arith, c.stored_length-length.ensures) in
    search rules

pub write_header-requires : goal.write_header-requires
write_header-requires c = length-take-le 512 c.args.buffer.now (omega (arith, c.stored_length-length.ensures))

pub loop-block-init : goal.loop-block-init
loop-block-init c = started c.args.form c.args.book.now c.write_header.new.block (drop 512 c.args.buffer.now) c.write_header.ensures

pub write_records-requires : goal.write_records-requires
write_records-requires c =
    let l = c.loop-block in
    let whole = c.stored_length-length.ensures ∙ ap (stored_length c.args.form) c.record_count.ensures.0 in
    let few = length_small c.args.form c.record_count.result c.record_count.ensures.1 in
    record {
      size = part_length l.buffer (l.block * 512) (omega (arith, c.stored_length-length.ensures));
      from = omega arith;
      to = omega (arith, few, c.stored_length-length.ensures);
      filled = later_begun c.args.form (length (records_of c.args.book.now)) (l.block - 1) (omega (arith, whole));
    }

pub loop-block-preserved : goal.loop-block-preserved
loop-block-preserved c =
    let l = c.loop-block in
    block_next c.args.form c.args.book.now l.buffer _ c.write_records.new.block l.block l.invariant c.write_records.ensures

pub overflow_cast-result : goal.overflow_cast-result
overflow_cast-result c =
    let few = length_small c.args.form c.record_count.result c.record_count.ensures.1 in
    omega (arith, few, c.stored_length-length.ensures)

pub returns : goal.returns
returns c =
    let s = c.args in
    let l = c.loop-block in
    let whole = c.stored_length-length.ensures ∙ ap (stored_length s.form) c.record_count.ensures.0 in
    let room : length_of s.form s.book.now ≤ length s.buffer.now = omega (arith, whole) in (
      store_answer_lem s.form s.book.now s.buffer.now _ whole room,
      store_done s.form s.book.now l.buffer s.buffer.now c.write_header.new.block l.block (omega (arith, whole)) room
          (ap length c.write_header.ensures ∙ stored_block_length s.form s.book.now 0) l.invariant,
      omega (arith, length_small s.form c.record_count.result c.record_count.ensures.1, c.record_count.ensures.0),
    )

use Rattle.std.proofs.Common.{ℕ, ◌≡◌, ◌-◌, ◌+◌, ◌*◌, ◌/◌, min, length, length-take-le, refl, sym, ◌∙◌, ap}
use native.Mathlib.Omega.{arith}
use Rattle.book.specs.Books.{records_of, book_of}
use Rattle.stored.specs.Blocks.{word_at}
use Rattle.stored.specs.Reading.{part_of, circuits_in, book_in}
use Rattle.stored.proofs.StoreLaws.{part_length}
use Rattle.stored.proofs.ReadLaws.{part_is, circuits_few, form_of, records_of_lem, read_next}
use Rattle.stored.proofs.readers.book_in.Goals as goal

pub slice_bounds-header-end : goal.slice_bounds-header-end
slice_bounds-header-end c = sym (length-take-le 512 c.args.bytes.now (omega (arith, c.requires)))

pub loop-block-init : goal.loop-block-init
loop-block-init c =
    c.blank-book.ensures ∙ rw (c.word_at-2.ensures, c.word_at-3.ensures, c.word_at-4.ensures) refl

pub read_block-requires : goal.read_block-requires
read_block-requires c =
    let form = c.args.form in
    let bytes = c.args.bytes.now in
    let t = c.loop-block in
    let total = c.min-total.result in
    let header = part_of bytes 0 in
    let read = circuits_in form bytes total (t.block - 1) in
    let e : length (records_of t.book) ≡ length read =
    ap length (records_of_lem t.book (word_at header 0) (word_at header 2) (word_at header 4) read t.invariant) in
    record {
      size = part_length bytes (t.block * 512) (omega (arith, c.requires));
      form = form_of t.book (word_at header 0) (word_at header 2) (word_at header 4) read t.invariant;
      some = omega (arith, circuits_few form bytes total (t.block - 1));
      most = omega arith;
    }

pub loop-block-preserved : goal.loop-block-preserved
loop-block-preserved c =
    let form = c.args.form in
    let bytes = c.args.bytes.now in
    let t = c.loop-block in
    let total = c.min-total.result in
    let header = part_of bytes 0 in
    let e : t.block ≡ t.block + 1 - 1 = omega arith in
    read_next form bytes _ total (word_at header 0) (word_at header 2) (word_at header 4) t.block t.book c.read_block.new.book (omega arith)
    t.invariant (part_is bytes t.block) c.read_block.ensures
    ∙ ap (λ (k : ℕ). book_of (word_at header 0) (word_at header 2) (word_at header 4) (circuits_in form bytes total k)) e

pub returns : goal.returns
unfolding book_in
returns c =
    let form = c.args.form in
    let bytes = c.args.bytes.now in
    let t = c.loop-block in
    let header = part_of bytes 0 in
    let all : t.block - 1 ≡ length bytes / 512 - 1 = omega arith in
    let total : c.min-total.result ≡ min 512 (word_at header 6) = omega (arith, c.word_at.ensures) in
    t.invariant ∙ rw (all, total) refl

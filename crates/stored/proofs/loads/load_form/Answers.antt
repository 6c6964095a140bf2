use Rattle.std.proofs.Common.{true, false, length, refl, sym, ◌∙◌}
use native.Mathlib.Omega.{arith}
use Rattle.stored.proofs.FormLaws.{longest_small}
use Rattle.stored.proofs.LoadLaws.{length_good, form_long, form_check, form_bad, form_good, form_right_is}
use Rattle.stored.proofs.loads.load_form.Goals as goal
use Rattle.stored.proofs.loads.load_form.Goals.{then-not-book_fits-via-then-not-book_fits}
use Rattle.stored.proofs.loads.load_form.Goals.{then-not-book_fits-via-else-not-book_fits+then-not-is_form}

pub returns-then-length_wrong : goal.returns-then-length_wrong
returns-then-length_wrong c =
    rw (form_long c.args.form c.args.bytes.now (sym c.length_wrong.ensures ∙ c.if-length_wrong.true)) refl

pub blocks_right-requires : goal.blocks_right-requires
blocks_right-requires c =
    let g = length_good c.args.form (length c.args.bytes.now) (sym c.length_wrong.ensures ∙ c.if-length_wrong.false) in
    (g.1, omega (arith, longest_small c.args.form))

pub returns-then-not-blocks_right : goal.returns-then-not-blocks_right
returns-then-not-blocks_right c =
    rw (form_check c.args.form c.args.bytes.now (sym c.length_wrong.ensures ∙ c.if-length_wrong.false)
    (sym c.blocks_right.ensures ∙ c.if-not-blocks_right.true)) refl

pub book_in-book-requires : goal.book_in-book-requires
book_in-book-requires c =
    let g = length_good c.args.form (length c.args.bytes.now) (sym c.length_wrong.ensures ∙ c.if-length_wrong.false) in
    (g.0, g.1, omega (arith, longest_small c.args.form))

pub returns-then-not-book_fits : goal.returns-then-not-book_fits
returns-then-not-book_fits c =
    let s = c.args in
    let long = sym c.length_wrong.ensures ∙ c.if-length_wrong.false in
    let checked = sym c.blocks_right.ensures ∙ c.if-not-blocks_right.false in
    let right = form_right_is s.form s.bytes.now c.book_in-book.result in
    elim c.then-not-book_fits.branch [
      | then-not-book_fits-via-then-not-book_fits w ↦
          let bad = right false _ c.book_in-book.ensures (sym w.if-not-book_fits.true ∙ c.book_fits.ensures) refl in
          rw (form_bad s.form s.bytes.now long checked bad) refl
      | then-not-book_fits-via-else-not-book_fits+then-not-is_form w ↦
          let bad = right true false c.book_in-book.ensures (sym w.if-not-book_fits.false ∙ c.book_fits.ensures)
          (sym w.if-not-is_form.true ∙ w.is_form.ensures) in
          rw (form_bad s.form s.bytes.now long checked bad) refl
    ]

pub returns : goal.returns
returns c =
    let s = c.args in
    let right = form_right_is s.form s.bytes.now c.book_in-book.result true true c.book_in-book.ensures
    (sym c.if-not-book_fits.false ∙ c.book_fits.ensures) (sym c.if-not-is_form.false ∙ c.is_form.ensures) in
    rw (
      form_good s.form s.bytes.now (sym c.length_wrong.ensures ∙ c.if-length_wrong.false)
          (sym c.blocks_right.ensures ∙ c.if-not-blocks_right.false) right,
      c.book_in-book.ensures,
    ) refl

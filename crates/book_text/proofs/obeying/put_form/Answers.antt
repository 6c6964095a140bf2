use Rattle.std.proofs.Common.{◌≡◌, ◌∙◌, refl, arith}
use Rattle.stored.specs.declared.forms.Form.TheVariants.{New}
use Rattle.stored.specs.Storing.{length_of}
use Rattle.book_text.proofs.ObeyLaws.{form_stored, form_told}
use Rattle.book_text.proofs.obeying.put_form.Goals as goal

pub unwrap-requires : goal.unwrap-requires
unwrap-requires c =
    let e = c.write_form.ensures in
    let stored = form_stored c.args.book.now c.args.form.now e.2 c.requires e.0 in
    rw stored refl

pub returns : goal.returns
returns c =
    let e = c.write_form.ensures in
    let stored = form_stored c.args.book.now c.args.form.now e.2 c.requires e.0 in
    let size : c.unwrap.result ≡ length_of New c.args.book.now = cc in
    record {
      told = form_told c.args.book.now c.args.form.now e.2 c.requires (c.from.ensures ∙ size) e.1;
      within = let kept = c.write_form.auto in omega (arith, e.2, size, c.from.ensures);
    }

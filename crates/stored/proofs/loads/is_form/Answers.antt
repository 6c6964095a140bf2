use Rattle.std.proofs.Common.{◌≤◌, length, length-take-le, replicate, refl, sym, ◌∙◌, ap}
use native.Mathlib.Omega.{arith}
use Rattle.ring.specs.Buffers.{same_bytes}
use Rattle.stored.proofs.StoreLaws.{form_fits, form_given, given_length, store_front}
use Rattle.stored.proofs.loads.is_form.Goals as goal

pub unwrap-length-requires : goal.unwrap-length-requires
unwrap-length-requires c =
    let b = c.args.book.now in
    rw (c.write_form.ensures.0, form_given c.args.form b c.write_form.ensures.2) refl

pub slice_bounds-copy-end : goal.slice_bounds-copy-end
slice_bounds-copy-end c =
    let b = c.args.book.now in
    let size = given_length c.args.form b c.write_form.ensures.2 c.unwrap-length.result (sym c.write_form.ensures.0 ∙ c.unwrap-length.ensures) in
    omega (arith, form_fits c.args.form b c.write_form.ensures.2)

pub slice_bounds-same_bytes-end : goal.slice_bounds-same_bytes-end
slice_bounds-same_bytes-end c =
    let b = c.args.book.now in
    let size = given_length c.args.form b c.write_form.ensures.2 c.unwrap-length.result (sym c.write_form.ensures.0 ∙ c.unwrap-length.ensures) in
    let within : c.from.result ≤ length c.write_form.new.buffer = omega (arith, form_fits c.args.form b c.write_form.ensures.2) in
    sym (length-take-le c.from.result c.write_form.new.buffer within)

pub returns : goal.returns
returns c =
    let form = c.args.form in
    let b = c.args.book.now in
    let size = given_length form b c.write_form.ensures.2 c.unwrap-length.result (sym c.write_form.ensures.0 ∙ c.unwrap-length.ensures) in
    c.same_bytes.ensures
    ∙ ap (same_bytes c.args.bytes.now)
    (store_front form b c.write_form.new.buffer (replicate 7168 0) c.from.result (c.from.ensures ∙ size) (form_fits form b c.write_form.ensures.2)
    c.write_form.ensures.1)

-- What a conversion wrote stands within the buffer.
use Rattle.std.proofs.Common.{◌≤◌, length, arith, sym, length-take-le}
use Rattle.rings.proofs.ConversionLaws.{conversion_fits}
use Rattle.rings.proofs.convert_input.Goals as goal

pub slice_bounds-answer-end : goal.slice_bounds-answer-end
slice_bounds-answer-end g c =
    let fits = conversion_fits c.args.form _ _ c.put_converted.ensures.answer c.put_converted.ensures.buffer c.in-Ok.is in
    let within : c.from.result ≤ length c.put_converted.new.out = omega (arith, fits, c.from.ensures) in
    sym (length-take-le _ _ within)

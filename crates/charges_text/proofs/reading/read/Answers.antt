use mathlib.Core.Path.{ap}
use native.Mathlib.Omega.{arith}
use lib.ListN.{length}
use Rattle.texts.proofs.FieldLaws.{long_shorter}
use Rattle.charges_text.proofs.reading.read.Goals as goal

pub length_lines-requires : goal.length_lines-requires
length_lines-requires c =
    let first = long_shorter _ _ c.in_ok-first.ensures.same in
    let second = long_shorter _ _ c.in_ok-second.ensures.same in
    let third = long_shorter _ _ c.in_ok-third.ensures.same in
    let size = ap length c.new-reader.ensures in
    omega arith

pub returns-clause-fits : goal.returns-clause-fits
returns-clause-fits c =
    let first = long_shorter _ _ c.in_ok-first.ensures.same in
    let second = long_shorter _ _ c.in_ok-second.ensures.same in
    let third = long_shorter _ _ c.in_ok-third.ensures.same in
    let size = ap length c.new-reader.ensures in
    let fits = c.in_ok-count.ensures.fits in
    omega arith

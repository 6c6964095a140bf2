use mathlib.Core.Path.{ap}
use native.Mathlib.Omega.{arith}
use lib.ListN.{length}
use Rattle.plan_text.proofs.LineLaws.{heading_shorter}
use Rattle.plan_text.proofs.reading.read.Goals as goal

pub request_lines-requires : goal.request_lines-requires
request_lines-requires c =
    let shorter = heading_shorter _ c.in_ok-numbers.ensures.same in
    let size = ap length c.new-reader.ensures in
    omega arith

pub returns-clause-fits : goal.returns-clause-fits
returns-clause-fits c =
    let shorter = heading_shorter _ c.in_ok-numbers.ensures.same in
    let size = ap length c.new-reader.ensures in
    let fits = c.in_ok-request_lines.ensures.fits in
    omega arith

use mathlib.Core.Path.{ap}
use native.Mathlib.Omega.{arith}
use lib.ListN.{length}
use Rattle.texts.proofs.DecimalLaws.{decimal_short, long_same}
use Rattle.texts.proofs.writing.Writer.number.Goals as goal

pub long-requires : goal.long-requires
long-requires c =
    let n = c.args.n in
    let short = decimal_short n in
    let same = ap length (long_same n (omega arith)) in
    rw c.from.ensures (omega arith)

pub returns : goal.returns
returns c =
    let n = c.args.n in
    rw (← long_same n (omega arith), ← c.from.ensures) c.long.ensures

use native.Mathlib.Omega.{arith}
use lib.Count.{trailing_le}
use Rattle.sets.proofs.TrailingLaws.{trailing_below, trailing_at}
use Rattle.sets.proofs.lowest.Goals as goal

pub overflow_cast-result : goal.overflow_cast-result
overflow_cast-result c = omega (arith, trailing_le 64 c.args.word)

pub returns : goal.returns
returns c =
    let at = trailing_at 64 c.args.word c.requires (omega arith) in
    (at.0, at.1, trailing_below 64 c.args.word)

use Rattle.std.proofs.Common.{◌≡◌, rules}
use native.Mathlib.Omega.{arith}
use Rattle.matching.specs.Internal.Start.{bits_set}
use Rattle.matching.proofs.MeasureLaws.{bits_few}
use Rattle.matching.proofs.starts.size.Goals as goal

pub returns : goal.returns
returns c =
    let e : c.sum.result ≡ bits_set c.args.words.now = search rules in
    (e, omega (arith, e, bits_few c.args.words.now (λ k. omega (arith, c.type_inv.words k))))

use Prim.Native.Nat.{◌-◌}
use native.Mathlib.Omega.{arith}
use Rattle.ring.specs.declared.ways.Way.TheVariants.{Plain}
use Rattle.ring.proofs.FateLaws.{number_within}
use Rattle.planner.proofs.spares.take_spare.Goals as goal

pub number-requires : goal.number-requires
number-requires c = omega (arith, number_within Plain (c.args.w - c.args.spare) 128 (omega arith))

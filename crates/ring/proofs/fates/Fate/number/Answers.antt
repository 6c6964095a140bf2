-- its number fits, so its parts do
use Prim.Native.Nat.{ℕ, ◌+◌, ◌*◌, ◌<◌}
use mathlib.Core.Path.{◌≡◌, sym, ap}
use native.Mathlib.Omega.{arith}
use Rattle.ring.specs.declared.ways.Way.{Way}
use Rattle.ring.specs.declared.fates.Fate.{Fate}
use Rattle.ring.specs.declared.fates.Fate.TheVariants.{Served}
use Rattle.ring.specs.Fates.{way_number, fate_number}
use Rattle.ring.proofs.FateLaws.{served_number_lem}
use Rattle.ring.proofs.fates.Fate.number.Goals as goal

fits : {f : Fate} {u : Way} {k : ℕ} → fate_number f < 65536 → f ≡ Served u k → 2 * k + 1 + way_number u < 65536
fits {f} {u} {k} h e = omega (arith, served_number_lem u k, ap fate_number e)

pub overflow_mul-result : goal.overflow_mul-result
overflow_mul-result c = omega (arith, fits c.requires c.in-Served.is)

pub overflow_add-result : goal.overflow_add-result
overflow_add-result c = omega (arith, fits c.requires c.in-Served.is)

pub overflow_add-result-in-Served : goal.overflow_add-result-in-Served
overflow_add-result-in-Served c = omega (arith, c.from.ensures, fits c.requires c.in-Served.is)

pub returns-in-Blocked : goal.returns-in-Blocked
unfolding fate_number
returns-in-Blocked c = ap fate_number (sym c.in-Blocked.is)

pub returns-in-Served : goal.returns-in-Served
returns-in-Served c =
    omega (
      arith,
      c.from.ensures,
      served_number_lem c.in-Served.way c.in-Served.colour,
      ap fate_number c.in-Served.is,
    )

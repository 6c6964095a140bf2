use native.Mathlib.Omega.{arith}
use Rattle.ring.proofs.FateLaws.{served_number_lem}
use Rattle.stored.proofs.stores.fate_field.Goals as goal

pub returns : goal.returns
returns c = omega (arith, served_number_lem c.args.way c.args.colour, c.from.ensures)

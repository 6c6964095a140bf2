use native.Mathlib.Omega.{arith}
use mathlib.Core.Path.{sym}
use Rattle.ring.proofs.FateLaws.{within_served}
use Rattle.checker.proofs.PlacingLaws.{placed_blocked, placed_served}
use Rattle.checker.proofs.place.Goals as goal

pub returns-in_default : goal.returns-in_default
returns-in_default c = λ e. (omega arith, placed_blocked _ _ _ (sym c.in_default.ensures))

pub hold-requires : goal.hold-requires
hold-requires c =
    record {
      ordered = c.requires.0;
      nodes = c.requires.1;
      colours = rw c.from-2.ensures (within_served c.args.number 128 _ _ (sym c.in-Served.ensures) (omega arith));
    }

pub returns : goal.returns
returns c = λ e. (omega arith, placed_served _ _ _ _ _ _ (sym c.in-Served.ensures) (rw (c.from-2.ensures, e) at c.hold.ensures))

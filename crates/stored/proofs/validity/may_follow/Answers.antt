use Rattle.std.proofs.Common.{sym, refl, ◌∙◌, true}
use Rattle.stored.proofs.Joins.{contrary}
use Rattle.stored.proofs.FitLaws.{fits_placed}
use Rattle.stored.proofs.validity.may_follow.Goals as goal
use Rattle.stored.proofs.validity.may_follow.Goals.{then-circuit_fits, else-circuit_fits}

pub hold-requires : goal.hold-requires
hold-requires c =
    elim c.if-circuit_fits.branch [
      | then-circuit_fits w ↦
          rw (c.ends.ensures, c.from.ensures)
          (fits_placed c.args.book.now.n c.args.book.now.w c.args.circuit.now true c.requires.0 c.requires.1
          (rw (sym c.circuit_fits.ensures, w.if-circuit_fits.true) refl))
      | else-circuit_fits w ↦ contrary c.if-serial_fits.true (w.value-is ∙ w.if-circuit_fits.false)
    ]

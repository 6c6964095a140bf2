use Rattle.stored.proofs.FitLaws.{ring_made}
use Rattle.stored.proofs.validity.ring_fits.Goals as goal

pub returns : goal.returns
returns c = rw (c.is_ok.ensures.value, c.new.ensures) (ring_made c.args.n c.args.w)

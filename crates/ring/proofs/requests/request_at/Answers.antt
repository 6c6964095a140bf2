use mathlib.Core.Path.{sym, ◌∙◌}
use Rattle.ring.proofs.RequestLaws.{request_at_lem}
use Rattle.ring.proofs.requests.request_at.Goals as goal

pub returns : goal.returns
returns c =
    c.new.ensures ∙ sym (request_at_lem c.args.ends.now c.args.i c.requires)

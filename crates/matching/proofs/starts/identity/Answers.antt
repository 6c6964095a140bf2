use Rattle.std.proofs.Common.{rules}
use Rattle.matching.proofs.starts.identity.Goals as goal

pub returns : goal.returns
returns c = record {
  places = c.from_fn.ensures.items.long;
  own = λ z h. let at = c.from_fn.ensures.items.at z 0 h in search rules;
}

use Rattle.matching.proofs.ClimbLaws.{goes_not, goes_by}
use Rattle.matching.proofs.matchings.Search.goes_on.Goals as goal

pub returns-then-o-b : goal.returns-then-o-b
returns-then-o-b c = goes_not _ _ _ _ _ c.from-o.ensures c.if-o-b.true

pub returns : goal.returns
returns c = goes_by _ _ _ _ _ c.from-o.ensures c.if-o-b.false

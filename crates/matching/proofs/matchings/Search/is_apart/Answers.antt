use Rattle.matching.proofs.AroundLaws.{apart_free, apart_even, apart_neither}
use Rattle.matching.proofs.matchings.Search.is_apart.Goals as goal

pub returns-in-Free : goal.returns-in-Free
returns-in-Free c = apart_free _ _ _ _ c.in-Free.is

pub returns-in-Even : goal.returns-in-Even
returns-in-Even c = apart_even _ _ _ _ c.in-Even.is

pub returns-in_default : goal.returns-in_default
returns-in_default c = apart_neither _ _ _ _ c.in_default.not-Free c.in_default.not-Even

use Rattle.std.proofs.Common.{rules}
use Rattle.ring.specs.Fates.{fate_of}
use Rattle.ring.proofs.fates.FateFromU16.from.Goals as goal

pub returns-then-number-eq0 : goal.returns-then-number-eq0
unfolding fate_of
returns-then-number-eq0 c = search rules

pub returns-then-number-eq1 : goal.returns-then-number-eq1
unfolding fate_of
returns-then-number-eq1 c = search rules

pub returns-else-number-eq1 : goal.returns-else-number-eq1
unfolding fate_of
returns-else-number-eq1 c = search rules

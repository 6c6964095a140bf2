-- The loop's invariant: the vertices of the cycle that the walk has passed have become even, and nothing else has changed.
use mathlib.Core.Path.{◌≡◌}
use Rattle.matching.specs.Internal.Steps.{with_queue, Promoted}
use Rattle.matching.proofs.MembersLaws.{Walking}
use Rattle.matching.proofs.matchings.Search.promote.Given as goal

abbrev pub invariant-loop-z : goal.invariant-loop-z
invariant-loop-z l =
    Walking l.z-iterator l.marks.cycle l.m
    × Promoted l.m l.z-iterator.from l.marks.sides l.initial.self.labels l.initial.self.queue l.initial.self.clock
    l.self.labels l.self.queue l.self.clock
    × (l.self ≡ with_queue l.initial.self l.self.labels l.self.queue l.self.clock)

-- The loop's invariant: the vertices of the set that the walk has passed have got the base b, and nothing else has changed.
use mathlib.Core.Path.{◌≡◌}
use Rattle.matching.specs.Internal.Bases.{has_below, Rebased}
use Rattle.matching.specs.Internal.Steps.{with_bases}
use Rattle.matching.proofs.MembersLaws.{Walking}
use Rattle.matching.proofs.matchings.Search.rebase_cycle.Given as goal

abbrev pub invariant-loop-z : goal.invariant-loop-z
invariant-loop-z l =
    Walking l.z-iterator l.marks.cycle l.m
    × Rebased l.b (has_below l.z-iterator.from l.marks.cycle) l.initial.self.bases l.initial.joined l.self.bases l.joined
    × (l.self ≡ with_bases l.initial.self l.self.bases)

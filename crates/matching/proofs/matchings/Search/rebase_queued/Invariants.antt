-- The loop's invariant: of the first i queued vertices, those whose base was on have got the base b, and nothing else has changed.
use mathlib.Core.Path.{◌≡◌}
use mathlib.Core.Bool.{◌&&◌}
use Rattle.matching.specs.Internal.Model.{among}
use Rattle.matching.specs.Internal.Steps.{base_on, with_bases}
use Rattle.matching.specs.Internal.Bases.{Rebased}
use Rattle.matching.proofs.matchings.Search.rebase_queued.Given as goal

abbrev pub invariant-loop-i : goal.invariant-loop-i
invariant-loop-i l =
    Rebased l.b (λ z. among l.initial.self.queue l.i z && base_on l.initial.self.bases l.marks.on z) l.initial.self.bases l.initial.joined
    l.self.bases l.joined
    × (l.self ≡ with_bases l.initial.self l.self.bases)

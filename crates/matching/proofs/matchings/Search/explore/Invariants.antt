-- `explore`: what holds of a search at the start of it holds of it, further on, at each turn.
use Prim.Native.Nat.{ℕ, ◌+◌, ◌-◌}
use Rattle.ring.specs.Requests.{requests_of}
use Rattle.matching.specs.Internal.Search.{SearchAt}
use Rattle.matching.proofs.matchings.Search.explore.Given as goal

abbrev pub invariant-loop-h : goal.invariant-loop-h
invariant-loop-h l =
    (r : ℕ) → SearchAt (requests_of l.graph.ends.now) r l.initial.self l.initial.rows 0
    → SearchAt (requests_of l.graph.ends.now) r l.self l.rows l.h

abbrev pub decreases-loop-h : goal.decreases-loop-h
decreases-loop-h l = (l.graph.count - l.g) + (l.graph.count - l.h)

-- `Extending` holds at each turn, so that the search stands as before, with a larger tree.
use Prim.Native.Nat.{ℕ}
use mathlib.Core.Path.{◌≡◌}
use Rattle.ring.specs.Requests.{requests_of}
use Rattle.matching.specs.Internal.Search.{SearchAt}
use Rattle.matching.proofs.ExtendLaws.{Extending}
use Rattle.matching.proofs.matchings.Search.extend.Given as goal

abbrev pub invariant-loop-y : goal.invariant-loop-y
invariant-loop-y l =
    ((r h : ℕ) → SearchAt (requests_of l.graph.ends.now) r l.initial.self l.initial.rows h
    → Extending (requests_of l.graph.ends.now) r l.self l.rows h l.g l.x l.y-iterator.words.now)
    × (l.y-iterator.end ≡ l.graph.count)

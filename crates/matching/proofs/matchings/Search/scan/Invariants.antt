-- `ScannedTo` holds at each turn, and at the end one vertex more is scanned.
use Prim.Native.Nat.{ℕ}
use mathlib.Core.Path.{◌≡◌}
use Rattle.ring.specs.Requests.{requests_of}
use Rattle.matching.specs.Internal.Search.{SearchAt}
use Rattle.matching.proofs.ScanLaws.{ScannedTo}
use Rattle.matching.proofs.matchings.Search.scan.Given as goal

abbrev pub invariant-loop-y : goal.invariant-loop-y
invariant-loop-y l =
    ((r : ℕ) → SearchAt (requests_of l.graph.ends.now) r l.initial.self l.initial.rows l.h
    → ScannedTo (requests_of l.graph.ends.now) r l.self l.rows l.h l.x l.y-iterator.from l.y-iterator.words.now)
    × (l.y-iterator.end ≡ l.graph.count)

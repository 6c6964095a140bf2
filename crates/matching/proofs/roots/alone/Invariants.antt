-- The walk has passed no member but r.
use Prim.Native.Nat.{ℕ, ◌<◌}
use mathlib.Core.Path.{◌≡◌}
use mathlib.Core.Bool.{false}
use Rattle.ring.specs.Requests.{requests_of}
use Rattle.sets.specs.Sets.{has}
use Rattle.neighbours.specs.Neighbours.{Neighbours}
use Rattle.matching.proofs.roots.alone.Given as goal

abbrev pub invariant-loop-z : goal.invariant-loop-z
invariant-loop-z l =
    Neighbours (requests_of l.fn.graph.ends.now) l.r l.z-iterator.words.now × (l.z-iterator.end ≡ l.fn.graph.count)
    × ((z : ℕ) → z < l.z-iterator.from → (z ≡ l.r → ⊥) → has l.z-iterator.words.now z ≡ false)

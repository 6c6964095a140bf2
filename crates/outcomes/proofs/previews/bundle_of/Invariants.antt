-- The loop's invariant: the lines before i are in the bundle.
use Rattle.std.proofs.Common.{◌≡◌, ◌/◌, length}
use Rattle.outcomes.proofs.EntryLaws.{Filling}
use Rattle.outcomes.proofs.previews.bundle_of.Given as goal

abbrev pub invariant-loop-i : goal.invariant-loop-i
invariant-loop-i l = (l.count ≡ length l.entries / 5) × Filling l.entries l.i l.bundle

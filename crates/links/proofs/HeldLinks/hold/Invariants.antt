-- The loop's invariant: the words below k are held.
use Rattle.links.proofs.HoldLaws.{Done}
use Rattle.links.proofs.HeldLinks.hold.Given as goal

abbrev pub invariant-loop-k : goal.invariant-loop-k
invariant-loop-k l = Done l.initial.self-inside.words l.self-inside.words l.way l.request l.colour l.k l.free

-- The loop's invariant: no number from `from` on is in a word before k, and the mask leaves those of word k.
use Rattle.sets.proofs.NextLaws.{Masked}
use Rattle.sets.proofs.next.Given as goal

abbrev pub invariant-loop-k : goal.invariant-loop-k
invariant-loop-k l = Masked l.words l.from l.k l.mask

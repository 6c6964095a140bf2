-- The loop's invariant: the lines before i are granted, one after another.
use Rattle.bundles.proofs.Trials.{Trial}
use Rattle.bundles.proofs.previews.preview.Given as goal

abbrev pub invariant-loop-i : goal.invariant-loop-i
invariant-loop-i l = Trial l.initial.copy l.bundle.count l.bundle.lines l.i l.copy l.serials

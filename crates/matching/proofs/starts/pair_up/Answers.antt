-- The two stores pair i with its partner.
use mathlib.Core.Path.{sym, ◌∙◌}
use native.Mathlib.Omega.{arith}
use Rattle.matching.proofs.StartLaws.{matched_paired}
use Rattle.matching.proofs.starts.pair_up.Goals as goal

pub returns-in-Some : goal.returns-in-Some
returns-in-Some c = matched_paired _ _ _ _ c.requires.1 (omega (arith, c.requires.0, c.args.graph.now.counted))
    (sym c.from.ensures ∙ c.if-from-i.true) c.in-Some.ensures

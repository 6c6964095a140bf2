use mathlib.Core.Path.{sym, ◌∙◌}
use native.Mathlib.Omega.{arith}
use Rattle.matching.proofs.StartLaws.{partner_found}
use Rattle.matching.proofs.starts.partner.Goals as goal

pub loop-j-preserved-then-is_none_or : goal.loop-j-preserved-then-is_none_or
loop-j-preserved-then-is_none_or c =
    let graph = c.args.graph.now in
    let (around, end, _) = c.loop-j.invariant in
    let step = c.in-Some.ensures.steps in
    let at = step.came.0 in (
      rw step.words_kept around,
      step.end_kept ∙ end,
      partner_found _ _ _ _ _ around (omega (arith, c.requires, graph.counted)) (omega (arith, at.most, end, graph.counted)) at.member
          c.if-j-i.true (sym c.from.ensures ∙ c.if-from-j.true),
    )

pub returns-then-high-ge-LARGE-2 : goal.returns-then-high-ge-LARGE-2
returns-then-high-ge-LARGE-2 c =
    let graph = c.args.graph.now in
    let (around, end, _) = c.loop-j.invariant in
    let at = c.in-Some.ensures.steps.came.0 in
    partner_found _ _ _ _ _ around (omega (arith, c.requires, graph.counted)) (omega (arith, at.most, end, graph.counted)) at.member
    c.if-j-i.true (sym c.from.ensures ∙ c.if-from-j.true)

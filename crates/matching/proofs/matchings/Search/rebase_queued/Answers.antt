use mathlib.Core.Path.{◌≡◌, refl, ap, ◌∙◌}
use native.Mathlib.Omega.{arith}
use lib.ListN.{get_or}
use Rattle.std.proofs.Common.{rules}
use Rattle.matching.specs.declared.matchings.Search.{Search}
use Rattle.matching.specs.Internal.Steps.{with_bases}
use Rattle.matching.proofs.BaseLaws.{rebased_none, rebased_more, rebased_inside, queued_turn}
use Rattle.matching.proofs.matchings.Search.rebase_queued.Goals as goal

pub loop-i-init : goal.loop-i-init
loop-i-init c = (rebased_none _ _ _ _ (search rules) (search rules) (λ z. refl), refl)

pub rebase_vertex-requires : goal.rebase_vertex-requires
rebase_vertex-requires c =
    let at = c.from-z.ensures ∙ ap (λ (s : Search). get_or s.queue c.loop-i.i 0) c.loop-i.invariant.1 in
    let queued = c.requires.4 c.loop-i.i c.loop-i-test.true in
    let base = rebased_inside c.args.m c.loop-i.invariant.0 c.requires.1 _ (c.requires.3 _ queued) in
    rw at (omega (arith, queued), omega arith, omega (arith, base))

pub loop-i-preserved : goal.loop-i-preserved
loop-i-preserved c =
    let H = c.loop-i.invariant.0 in
    let at = c.from-z.ensures ∙ ap (λ (s : Search). get_or s.queue c.loop-i.i 0) c.loop-i.invariant.1 in (
      rebased_more _ H c.rebase_vertex.ensures.0 (queued_turn c.args.self.now.queue c.args.marks.now.on c.loop-i.i _ at H),
      c.rebase_vertex.ensures.1 ∙ ap (λ (s : Search). with_bases s c.rebase_vertex.new.self.bases) c.loop-i.invariant.1,
    )

pub returns : goal.returns
returns c =
    let e : c.loop-i.i ≡ c.args.self.now.clock = omega (arith, c.loop-i-test.false, c.loop-i.auto.i-end) in
    (rw e at c.loop-i.invariant.0, c.loop-i.invariant.1)

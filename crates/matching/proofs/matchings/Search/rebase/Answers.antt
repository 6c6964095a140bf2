-- First the queued vertices, then those of the cycle.
use mathlib.Core.Path.{ap, ◌∙◌}
use Rattle.matching.specs.declared.matchings.Search.{Search}
use Rattle.matching.specs.Internal.Steps.{with_bases}
use Rattle.matching.proofs.BaseLaws.{rebased_base, rebased_joined}
use Rattle.matching.proofs.matchings.Search.rebase.Goals as goal

pub rebase_queued-requires : goal.rebase_queued-requires
rebase_queued-requires c =
    let R = c.requires in
    (R.few, R.base_inside, R.clock_fits, R.bases_inside, R.queue_inside)

pub rebase_cycle-requires : goal.rebase_cycle-requires
rebase_cycle-requires c = (c.requires.few, c.requires.base_inside)

pub returns : goal.returns
returns c =
    let queued = c.rebase_queued.ensures in
    let cycled = c.rebase_cycle.ensures in
    record {
      bases_length = cycled.0.bases_length;
      base = rebased_base c.args.m c.args.b c.args.self.now c.args.marks.now queued.0 cycled.0;
      member = rebased_joined c.args.m c.args.b c.args.self.now c.args.marks.now queued.0 cycled.0;
      kept = cycled.1 ∙ ap (λ (s : Search). with_bases s c.rebase_cycle.new.self.bases) queued.1;
    }

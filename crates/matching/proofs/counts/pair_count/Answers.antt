-- The requests below their mates are those whose pairs the list has.
use mathlib.Core.Path.{sym, ◌∙◌}
use lib.ListN.{take}
use Rattle.std.proofs.Common.{rules, tests}
use Rattle.std.proofs.lemmas.Iterator.{YieldsList-from_slice}
use Rattle.std.proofs.lemmas.Iterator.Consumers.{YieldsList-at, YieldsList-from_enumerate, YieldsList-from_filter, count_from_yields_List}
use Rattle.matching.proofs.CountLaws.{is_lower, pairs_counted}
use Rattle.matching.proofs.counts.pair_count.Goals as goal

pub returns : goal.returns
returns c =
    let pairs = YieldsList-at c.enumerate.ensures.source (YieldsList-from_slice (take c.args.m c.args.mates.now) (cc)) in
    count_from_yields_List _ _ c.count.ensures.ran
    (YieldsList-from_filter _ is_lower (YieldsList-at c.filter.ensures.source (YieldsList-from_enumerate pairs (cc)))
    c.filter.ensures.closure (λ x r q k. search (rules, tests)))
    ∙ sym (pairs_counted c.args.m c.args.mates.now)

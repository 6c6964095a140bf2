-- The case of twins, computed from the definitions.
use mathlib.Core.Path.{refl}
use mathlib.Core.Bool.{xor}
use Rattle.ring.specs.Ways.{uses, some_link, share_link, link_count}
use Rattle.ring.specs.Fates.{fate_number}
use Rattle.ring.specs.Plans.{served}
use Rattle.ring.specs.Chords.{inside, share_end, crosses, compatible}
use Rattle.ring.specs.Routing.{twins, shorter_way, first_way, second_way}
use Rattle.ring.specs.Admission.{ring_verdict, ends_verdict, request_verdicts, count_verdict, list_verdict}
use Rattle.chain.specs.Order.{order}
use Rattle.chain.specs.Rule.{pick}
use Rattle.chain.specs.ChainPart.{chain_part}
use Rattle.planner.specs.PairPart.{pair_fates, pair_part}
use Rattle.cases.specs.Twins.{TwinCase}
use Rattle.cases.proofs.Pairs.{pair_plans}

pub twin_case : TwinCase
unfolding chain_part order pick compatible crosses share_end xor served ring_verdict count_verdict list_verdict request_verdicts ends_verdict
    pair_part pair_fates first_way second_way twins shorter_way link_count inside share_link some_link uses fate_number
twin_case = record { plans = pair_plans 5 0 4 0 4 refl refl refl refl refl refl; numbers = refl }

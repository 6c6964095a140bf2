use Prim.Native.Nat.{◌/◌}
use mathlib.Core.Path.{refl, ◌∙◌}
use native.Mathlib.Omega.{arith}
use lib.ListN.{length}
use borrow.Author.Tests.{lt-ltb, le-ltb}
use Rattle.planner.proofs.ChoiceLaws.{counted, few_pairs, few_served, pair_chosen, chain_chosen, counts_chosen}
use Rattle.planner.proofs.plans.choose.Goals as goal
use Rattle.planner.proofs.plans.choose.Goals.{then-more, else-more, then-more-2, else-more-2}

pub overflow_cast-matched : goal.overflow_cast-matched
overflow_cast-matched c =
    let few = few_pairs c.args.call.now.within c.requires in
    omega arith

pub overflow_sub-requests : goal.overflow_sub-requests
overflow_sub-requests c =
    let few = few_pairs c.args.call.now.within c.requires in
    omega (arith, c.min-pairs.ensures)

pub ceiling-requires : goal.ceiling-requires
ceiling-requires c = few_served c.args.call.now.within c.requires

pub returns : goal.returns
returns c =
    let within = c.args.call.now.within in
    let pairs = c.min-pairs.ensures in
    let paired = counted (length c.args.call.now.ends.now / 2) c.args.call.now.ring.colours c.min-pairs.result
    (length c.args.call.now.ends.now / 2) c.min.result refl c.min.ensures in
    record {
      table =
          elim c.if-more.branch [
            | then-more w ↦
                w.table-is
                ∙ pair_chosen within c.requires c.min-pairs.result _ _ _ pairs paired (lt-ltb _ _ w.if-more.true) w.write_pairs.ensures
                w.fill.ensures
            | else-more w ↦
                w.table-is ∙ chain_chosen within c.requires c.min-pairs.result _ pairs paired (le-ltb _ _ w.if-more.false)
          ];
      counts =
          counts_chosen within c.requires _ c.min-pairs.result _ _ _ refl pairs paired
          (elim c.if-more-2.branch [
            | then-more-2 w ↦ rw (lt-ltb _ _ w.if-more-2.true) w.result-is
            | else-more-2 w ↦ rw (le-ltb _ _ w.if-more-2.false) w.result-is
          ]) c.ceiling.ensures;
    }

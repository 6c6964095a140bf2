-- With all labels free a matching is settled up to request 0.
use Prim.Native.Nat.{ℕ}
use mathlib.Core.Path.{refl}
use native.Mathlib.Omega.{arith}
use lib.ListN.{length-replicate}
use Rattle.matching.proofs.StartLaws.{matched_identity, start_settled}
use Rattle.matching.proofs.maxima.start.Goals as goal

pub greedy-requires : goal.greedy-requires
greedy-requires c = matched_identity _ _ c.args.graph.now.valid.few c.identity-bases.ensures

pub settle_alone-root-requires : goal.settle_alone-root-requires
settle_alone-root-requires c =
    let blank : ℕ = 0 in
    record {
      settled = start_settled _ _ c.greedy.ensures c.identity-bases.ensures refl (length-replicate 512 blank) (length-replicate 512 blank);
      most = omega arith;
    }

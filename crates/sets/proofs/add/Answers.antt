use Prim.Native.Nat.{◌/◌, ◌<◌}
use native.Mathlib.Omega.{arith}
use lib.ListN.{length, length-set}
use Rattle.sets.proofs.SetLaws.{added}
use Rattle.sets.proofs.add.Goals as goal

pub returns : goal.returns
returns c =
    let words = c.args.words.now in
    let inside : c.args.z / 64 < length words = omega (arith, c.told-words) in
    (simp length-set c.told-words, added words c.args.z inside)

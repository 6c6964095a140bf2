use Rattle.std.proofs.Common.{◌≡◌, ◌+◌, take, get_or, length-set}
use borrow.Author.Rules.{rules}
use native.Mathlib.Omega.{arith}
use Rattle.charges.specs.Promises.{total}
use Rattle.charges.proofs.LengthLaws.{none_above, total_next, total_most}
use Rattle.charges.proofs.DistanceLaws.{added_up_next}
use Rattle.charges.proofs.lengths.Distances.add_up.Goals as goal

-- the length of a link, and 0 past the last one
link_length : (c : goal.After-unwrap_or-metres) → c.unwrap_or-metres.result ≡ get_or c.args.lengths.now c.loop-i.i 0
link_length c = search rules

pub overflow_add-metres : goal.overflow_add-metres
overflow_add-metres c =
    let l = c.loop-i in
    let most = none_above 1 1000000 c.args.lengths.now c.requires in
    omega (arith, link_length c, l.invariant.1, total_most l.i c.args.lengths.now most, most l.i)

pub loop-i-preserved : goal.loop-i-preserved
loop-i-preserved c =
    let l = c.loop-i in
    let lengths = c.args.lengths.now in
    let more : l.metres + c.unwrap_or-metres.result ≡ total (take (l.i + 1) lengths) =
    omega (arith, link_length c, total_next l.i lengths) in
    (simp length-set l.invariant.0, more, added_up_next lengths l.entries l.i (l.metres + c.unwrap_or-metres.result) (omega arith) l.invariant.2 more)

use mathlib.Core.Bool.{◌&&◌}
use mathlib.Core.Path.{◌≡◌}
use native.Mathlib.Omega.{arith}
use lib.Bits.{bit_and}
use lib.Dec.{eqb}
use lib.ListN.{get_or}
use Rattle.links.proofs.HoldLaws.{done_start, done_turn, done_end}
use Rattle.links.proofs.HeldLinks.hold.Goals as goal
use Rattle.links.proofs.HeldLinks.hold.Goals.{then-free, else-free}

pub loop-k-init : goal.loop-k-init
loop-k-init c = done_start _ _ _ _ c.self.invariant

pub loop-k-preserved : goal.loop-k-preserved
loop-k-preserved c =
    let here = c.loop-k in
    let tested : c.if-free.free
    ≡ (here.free && eqb (bit_and (get_or (get_or here.self-inside.words c.args.colour _) here.k 0) c.word-links.result) 0) =
    elim c.if-free.branch [ then-free w ↦ cc (w.if-free.true, w.free-is) | else-free w ↦ cc (w.if-free.false, w.free-is) ] in
    done_turn _ _ _ _ _ _ _ _ _ c.requires.colours c.loop-k-test.true here.invariant c.word-links.type_inv
    c.word-links.ensures tested

pub returns : goal.returns
returns c =
    let all : c.loop-k.k ≡ 4 = omega arith in
    rw (← c.self.view_is) (done_end _ _ _ _ _ _ (rw all at c.loop-k.invariant))

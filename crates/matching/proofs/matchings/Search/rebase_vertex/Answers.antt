-- By whether the base of the vertex is on.
use mathlib.Core.Path.{refl}
use Rattle.std.proofs.Common.{rules}
use Rattle.matching.proofs.BaseLaws.{vertex_on, vertex_off}
use Rattle.matching.proofs.matchings.Search.rebase_vertex.Goals as goal

pub returns-then-marks-c : goal.returns-then-marks-c
returns-then-marks-c c =
    let on = rw c.from-c.ensures at c.if-marks-c.true in
    (vertex_on _ _ _ c.args.marks.now.on _ (search rules) _ on c.requires.0 c.add.ensures.0 c.add.ensures.1, refl)

pub returns-else-marks-c : goal.returns-else-marks-c
returns-else-marks-c c =
    let off = rw c.from-c.ensures at c.if-marks-c.false in
    (vertex_off _ _ _ c.args.marks.now.on _ (search rules) off (search rules), refl)

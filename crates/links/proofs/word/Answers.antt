use Prim.Native.Nat.{◌+◌, ◌*◌}
use mathlib.Core.Path.{sym, ap, ◌∙◌}
use native.Mathlib.Omega.{arith}
use Rattle.ring.specs.declared.ways.Way.{Way}
use Rattle.ring.specs.Ways.{uses}
use Rattle.links.proofs.WordLaws.{on_plain, on_seam}
use Rattle.links.proofs.word.Goals as goal

pub returns-in-Plain : goal.returns-in-Plain
returns-in-Plain c = λ i h.
    on_plain c.args.request c.args.k i _ _ c.requires.0 (c.below-2.ensures i h)
    (c.below.ensures i h)
    ∙ ap (λ (v : Way). uses v c.args.request (64 * c.args.k + i)) (sym c.in-Plain.is)

pub returns-in-Seam : goal.returns-in-Seam
returns-in-Seam c = λ i h.
    on_seam c.args.request c.args.k i _ _ c.requires.0 (c.below-2.ensures i h)
    (c.below.ensures i h) (omega arith) (omega arith) h
    ∙ ap (λ (v : Way). uses v c.args.request (64 * c.args.k + i)) (sym c.in-Seam.is)

use mathlib.Core.Logic.{⊎_elim}
use native.Mathlib.Omega.{arith}
use Rattle.matching.proofs.AdjacencyLaws.{adjacent_symmetric}
use Rattle.matching.proofs.AttachLaws.{attachable, scan_attached}
use Rattle.matching.proofs.matchings.Search.step.Goals as goal

pub bounds : goal.bounds
bounds c =
    let p = c.requires.0.3 in omega (arith, p.inside, p.number, p.at.standing.sized.few)

pub blossom-requires : goal.blossom-requires
blossom-requires c = (c.requires.0, c.in-Even.is)

pub returns-in-Even : goal.returns-in-Even
returns-in-Even c = c.blossom.ensures

pub attach-requires : goal.attach-requires
attach-requires c =
    let p = c.requires.0.3 in
    let free = ⊎_elim (λ free. free) (λ even. absurd (c.in_default.not-Even even)) c.requires.1 in
    attachable _ (adjacent_symmetric c.requires.0.0) _ _ _ p.at.standing p.at.scanned p.at.scanning.search _ _
    p.at.scanning.partly.x_even (rw p.number at p.inside) free p.neighbour

pub returns-in_default : goal.returns-in_default
returns-in_default c = λ ends r h p.
    let free = ⊎_elim (λ free. free) (λ even. absurd (c.in_default.not-Even even)) c.requires.1 in
    scan_attached _ (adjacent_symmetric ends) _ _ _ _ _ _ p.at (rw p.number at p.inside) free p.neighbour _ _ _
    c.attach.ensures

-- Begun, explored to an end, and frozen where that has not enlarged the matching.
use native.Mathlib.Numerals.{add-one}
use native.Mathlib.Omega.{arith}
use Rattle.matching.proofs.AdjacencyLaws.{adjacent_symmetric}
use Rattle.matching.proofs.SearchLaws.{search_begun, search_ends}
use Rattle.matching.proofs.matchings.Search.run.Goals as goal

pub begin-requires : goal.begin-requires
begin-requires c =
    let p = c.requires in
    (p.2, omega (arith, c.args.graph.now.counted, p.0.sized.few), omega (arith, p.1.many, p.2))

pub explore-requires : goal.explore-requires
explore-requires c =
    let p = c.requires in (_, search_begun p.0 p.1 c.args.graph.now.counted p.2 p.3 p.4 c.begin.ensures)

pub returns-else-not-explore : goal.returns-else-not-explore
returns-else-not-explore c =
    let p = c.requires in
    let number = c.args.graph.now.counted in
    let O = c.explore.ensures _ (search_begun p.0 p.1 number p.2 p.3 p.4 c.begin.ensures) in
    (rw add-one (O.enlarged c.if-not-explore.false), rw number O.square)

pub freeze-requires : goal.freeze-requires
freeze-requires c = omega (arith, c.args.graph.now.counted, c.requires.0.sized.few)

pub returns-then-not-explore : goal.returns-then-not-explore
returns-then-not-explore c =
    let p = c.requires in
    let number = c.args.graph.now.counted in
    let O = c.explore.ensures _ (search_begun p.0 p.1 number p.2 p.3 p.4 c.begin.ensures) in
    let after = O.going c.if-not-explore.true in
    let S = search_ends _ (adjacent_symmetric c.args.graph.now.ends.now) _ _ _ _ after (omega arith) _ (rw number at c.freeze.ensures) in
    (S, rw number after.standing.square)

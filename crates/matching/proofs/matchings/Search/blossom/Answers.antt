-- What the two walks have found is the blossom, in the words of the theory.
use mathlib.Core.Path.{sym, ap, subst, ◌∙◌}
use native.Mathlib.Omega.{arith}
use Rattle.ring.proofs.Cases.{impossible}
use Rattle.matching.specs.declared.matchings.Search.{Search}
use Rattle.matching.specs.Internal.Rows.{Absorbed}
use Rattle.matching.specs.Internal.Steps.{with_queue, Promoted}
use Rattle.matching.proofs.AdjacencyLaws.{adjacent_symmetric}
use Rattle.matching.proofs.WalkLaws.{climbable}
use Rattle.matching.proofs.ClosingLaws.{labelled_even, readable, closed, cycle_odd_or_none, covered, rebasable}
use Rattle.matching.proofs.BlossomLaws.{cycle_room, blossom_stands}
use Rattle.matching.proofs.KeptLaws.{unmixed_first, unmixed_second}
use Rattle.matching.proofs.matchings.Search.blossom.Goals as goal

pub climb_both-b-requires : goal.climb_both-b-requires
climb_both-b-requires c =
    let p = c.requires.0.3 in
    let number = p.number in
    let symmetric = adjacent_symmetric c.requires.0.0 in
    let ex = p.at.scanning.partly.x_even in
    let ey = labelled_even _ symmetric _ _ _ _ _ _ p.at (rw number at p.inside) c.requires.1 in
    let T = p.at.standing in
    let I = p.at.scanning.search.invariant in
    (climbable _ symmetric _ _ _ T I _ _ ex ey, climbable _ symmetric _ _ _ T I _ _ ey ex)

pub rebase-joined-requires : goal.rebase-joined-requires
rebase-joined-requires c =
    let p = c.requires.0.3 in
    let number = p.number in
    let symmetric = adjacent_symmetric c.requires.0.0 in
    let C = closed _ symmetric _ _ _ _ _ _ p.at (rw number at p.inside) c.requires.1 p.neighbour
    c.climb_both-b.ensures in
    rw number (rebasable _ symmetric _ _ _ _ _ _ C _ (omega (arith, number, C.inside)))

pub absorb-requires : goal.absorb-requires
absorb-requires c =
    let p = c.requires.0.3 in
    let number = p.number in
    let symmetric = adjacent_symmetric c.requires.0.0 in
    let C = closed _ symmetric _ _ _ _ _ _ p.at (rw number at p.inside) c.requires.1 p.neighbour
    c.climb_both-b.ensures in
    let joins = c.rebase-joined.ensures in
    rw joins.kept (
      rw number p.at.standing.square,
      rw number (readable _ symmetric _ _ _ _ _ _ p.at (rw number at p.inside) c.requires.1),
      λ v l. cycle_odd_or_none _ symmetric _ _ _ _ _ _ C v (rw number at l),
      record {
        covered = λ v l. covered _ symmetric _ _ _ _ _ _ C v (rw number at l);
        first = λ v l e. rw number (unmixed_first _ symmetric _ _ _ _ _ _ C _ (λ z l. joins.member z (rw number l)) v (rw number at l) e);
        second = λ v l e. rw number (unmixed_second _ symmetric _ _ _ _ _ _ C _ (λ z l. joins.member z (rw number l)) v (rw number at l) e);
      },
    )

pub promote-requires : goal.promote-requires
promote-requires c =
    let p = c.requires.0.3 in
    let number = p.number in
    let symmetric = adjacent_symmetric c.requires.0.0 in
    let C = closed _ symmetric _ _ _ _ _ _ p.at (rw number at p.inside) c.requires.1 p.neighbour
    c.climb_both-b.ensures in
    rw c.rebase-joined.ensures.kept (
      omega (arith, number, p.at.standing.sized.few),
      rw number (cycle_room _ symmetric _ _ _ _ _ _ C),
      λ v l. covered _ symmetric _ _ _ _ _ _ C v (rw number at l),
    )

pub shape_of-rows : goal.shape_of-rows
shape_of-rows c = c.absorb.auto.rows

pub returns : goal.returns
returns c = λ ends r h p.
    let number = p.number in
    let symmetric = adjacent_symmetric ends in
    let C = closed _ symmetric _ _ _ _ _ _ p.at (rw number at p.inside) c.requires.1 p.neighbour
    c.climb_both-b.ensures in
    let sides = c.climb_both-b.new.marks.sides in
    let t = c.promote.new.self in
    let joins = c.rebase-joined.ensures in
    let absorbed = subst (λ (u : Search). Absorbed c.args.m c.args.rows.now c.absorb.new.rows u.labels u.mates sides c.args.x c.args.y)
    joins.kept c.absorb.ensures.1 in
    let promoted = subst (λ (u : Search). Promoted c.args.m c.args.m sides u.labels u.queue u.clock t.labels t.queue t.clock)
    joins.kept c.promote.ensures.0 in
    let square = rw number at c.absorb.ensures.0 in
    let here = blossom_stands _ symmetric _ _ _ _ _ _ C _ square (rw number at absorbed) _ joins.bases_length
    (λ z l. joins.base z (rw number l)) _ _ _ (rw number at promoted) in
    let after = c.promote.ensures.1 ∙ ap (λ (u : Search). with_queue u t.labels t.queue t.clock) joins.kept in
    rw after (record { square = here.standing.square; enlarged = λ d. impossible (sym d); going = λ d. here })

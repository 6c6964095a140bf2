-- The loop's invariant: the vertices that the walk has passed have got their rows.
use Rattle.matching.proofs.AbsorbLaws.{AbsorbedBelow}
use Rattle.matching.proofs.MembersLaws.{Walking}
use Rattle.matching.proofs.matchings.Search.absorb.Given as goal

abbrev pub invariant-loop-v : goal.invariant-loop-v
invariant-loop-v l =
    Walking l.v-iterator l.marks.cycle l.m
    × AbsorbedBelow l.v-iterator.from l.m l.initial.rows l.rows l.self.labels l.self.mates l.marks.sides l.x l.y

-- The loop's invariant: row v is mixed of rows p and q below the vertex that the walk has come to, and a copy of row q from there on.
use Rattle.matching.proofs.MembersLaws.{Walking}
use Rattle.matching.proofs.MendLaws.{Mending}
use Rattle.matching.proofs.matchings.Search.absorb_row.Given as goal

abbrev pub invariant-loop-z : goal.invariant-loop-z
invariant-loop-z l =
    Walking l.z-iterator l.joined l.m
    × Mending l.z-iterator.from l.m l.initial.rows l.rows l.self.labels l.self.mates l.joined l.p l.q l.v

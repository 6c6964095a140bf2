use Rattle.std.proofs.Common.{List, sym, ap}
use Rattle.book.specs.declared.circuits.Circuit.{Circuit}
use Rattle.book.specs.Circuits.{circuit}
use Rattle.stored.proofs.FitLaws.{ring_within, walk_start, walk_turn, walk_stop}
use Rattle.stored.proofs.validity.circuits_fit.Goals as goal

pub loop-circuit-init : goal.loop-circuit-init
loop-circuit-init c = rw c.new-held.ensures (walk_start c.args.book.now)

pub may_follow-requires : goal.may_follow-requires
may_follow-requires c = ring_within c.args.book.now.n c.args.book.now.w c.requires

pub returns-then-not-may_follow : goal.returns-then-not-may_follow
returns-then-not-may_follow c =
    let b = c.args.book.now in
    let l = c.loop-circuit in
    let records = c.records-circuit-items.ensures in
    walk_stop b l.held _ l.last l.circuit-index _ _ c.requires (rw (sym records) c.loop-circuit-test.true) l.invariant (ap (λ (cs : List Circuit). circuit cs l.circuit-index) records) c.may_follow.ensures c.if-not-may_follow.true

pub loop-circuit-preserved : goal.loop-circuit-preserved
loop-circuit-preserved c =
    let b = c.args.book.now in
    let l = c.loop-circuit in
    let records = c.records-circuit-items.ensures in
    walk_turn b l.held _ l.last l.circuit-index _ _ c.requires (rw (sym records) c.loop-circuit-test.true) l.invariant (ap (λ (cs : List Circuit). circuit cs l.circuit-index) records) c.may_follow.ensures c.if-not-may_follow.false

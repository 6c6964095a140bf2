-- Where no search is due, the state is the answer.
use Rattle.matching.proofs.roots.search_from.Goals as goal

pub returns-then-matching-graph : goal.returns-then-matching-graph
returns-then-matching-graph c = (c.requires, c.if-matching-graph.true)

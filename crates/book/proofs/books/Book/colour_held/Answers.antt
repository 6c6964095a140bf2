use Rattle.std.proofs.Common.{◌∙◌, rules, tests}
use Rattle.std.proofs.lemmas.Iterator.{YieldsList-from_slice}
use Rattle.std.proofs.lemmas.Iterator.Search.{any_from_yields_List}
use Rattle.book.specs.declared.circuits.Circuit.{Circuit}
use Rattle.book.specs.Circuits.{some_circuit}
use Rattle.book.specs.Internal.Conflicts.{conflicts, conflict_in}
use Rattle.book.proofs.books.Book.colour_held.Goals as goal

pub returns : goal.returns
unfolding conflict_in some_circuit
returns c =
    any_from_yields_List (λ (x : Circuit). conflicts x c.args.way c.args.request c.args.colour) _ _ _ c.any.ensures.ran
    (YieldsList-from_slice _ (c.iter.ensures.rest ∙ c.records.ensures))
    (λ x b q k. search (rules, tests))

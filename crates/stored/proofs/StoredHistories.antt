-- The stored form of a book after calls reads back as that book, and no file of it that is recent enough shows a removed order.
use mathlib.Core.Path.{refl, sym, subst}
use lib.ListN.{drop}
use Rattle.book.specs.declared.books.Book.{Book}
use Rattle.book.specs.Books.{opened}
use Rattle.book.specs.Revisions.{NotShown}
use Rattle.book.specs.History.{run}
use Rattle.book.proofs.EveryHistory.{every_history}
use Rattle.book.proofs.RevisionMoments.{not_revived}
use Rattle.stored.specs.Histories.{StoredHistories, NeverRevives}
use Rattle.stored.proofs.Promised.{reads_back, loads_again}

pub stored_histories : StoredHistories
stored_histories n w allowed calls =
    let after = every_history n w allowed calls in
    record { form = refl; loads = reads_back _ after.valid; after = after }

pub never_revives : NeverRevives
never_revives n w allowed calls i j serial gone loads =
    let b = run (opened n w).book (drop j calls) in
    let again = loads_again b (every_history n w allowed (drop j calls)).valid _ loads in
    subst (λ (x : Book). NotShown x serial) (sym again.1) (not_revived n w allowed calls i j serial gone again.0)

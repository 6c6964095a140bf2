-- A change of a book, and the book stored behind it.
use Rattle.std.specs.Prelude.{ℕ, List, ◌++◌}
use Rattle.ring.specs.Answers.{InNumbers, gives}
use Rattle.book.specs.declared.books.Book.{Book}
use Rattle.book.specs.Grants.{granted, grant_in_numbers}
use Rattle.book.specs.Removals.{removed, remove_in_numbers}
use Rattle.book.specs.Confirmations.{confirmed, confirm_in_numbers}
use Rattle.stored.specs.Storing.{store_answer, after_store, store_in_numbers}
use Rattle.outcomes.specs.Outcomes.{Outcome, on_success}

-- refusals "change nothing lent"
abbrev pub refusing : InNumbers → List ℕ → Outcome
refusing answer buffer = record { answer = answer; buffer = buffer }

-- the book is stored: these values, and the length of the stored form behind them; or 17
abbrev pub storing : List ℕ → Book → List ℕ → Outcome
storing values b buffer =
    on_success (store_in_numbers (store_answer b buffer))
    (record { answer = gives (values ++ (store_in_numbers (store_answer b buffer)).values); buffer = after_store b buffer })
    (refusing (store_in_numbers (store_answer b buffer)) buffer)

-- an accepted change, after which the book is this one, is stored
abbrev pub changing : InNumbers → Book → List ℕ → Outcome
changing answer b buffer = on_success answer (storing answer.values b buffer) (refusing answer buffer)

-- a grant on a book
abbrev pub grant_on : Book → ℕ → ℕ → ℕ → ℕ → ℕ → List ℕ → Outcome
grant_on b x y way colour crew buffer =
    changing (grant_in_numbers (granted b x y way colour crew).answer) (granted b x y way colour crew).book buffer

-- a removal on a book
abbrev pub remove_on : Book → ℕ → List ℕ → Outcome
remove_on b serial buffer = changing (remove_in_numbers (removed b serial).answer) (removed b serial).book buffer

-- a confirmation on a book
abbrev pub confirm_on : Book → ℕ → List ℕ → Outcome
confirm_on b serial buffer = changing (confirm_in_numbers (confirmed b serial).answer) (confirmed b serial).book buffer

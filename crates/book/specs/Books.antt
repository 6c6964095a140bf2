-- Books in one form: the records, live and pending, by rising serial, vacant ones behind them.
use Rattle.std.specs.Prelude.{ℕ, ◌-◌, ◌≤◌, ◌<◌, ◌≡◌, Bool, true, false, cond, List, [], ◌∷◌, ◌++◌, length, take, replicate, filter, Result}
use Rattle.std.specs.Prelude.{Ok, Err, ⊤}
use Rattle.ring.specs.declared.refusals.Refusal.{Refusal}
use Rattle.ring.specs.Refusals.{Verdict}
use Rattle.ring.specs.Answers.{InNumbers, gives, refuses}
use Rattle.ring.specs.Admission.{ring_verdict}
use Rattle.book.specs.declared.circuits.Circuit.{Circuit}
use Rattle.book.specs.declared.books.Book.{Book}
use Rattle.book.specs.Circuits.{vacant, is_live, is_marked, circuit, some_circuit, holds}

-- the records, live and pending: those of the first `records` places
abbrev pub records_of : Book → List Circuit
records_of b = take b.records b.places

-- the live ones of some records
abbrev pub live_in : List Circuit → List Circuit
live_in cs = filter is_live cs

-- the pending ones
abbrev pub pending_in : List Circuit → List Circuit
pending_in [] = []
pending_in (c ∷ cs) = cond (is_live c) (pending_in cs) (c ∷ pending_in cs)

-- the live circuits; "the live count does not include pending records": it is their number
abbrev pub live_of : Book → List Circuit
live_of b = live_in (records_of b)

-- the pending circuits
abbrev pub pending_of : Book → List Circuit
pending_of b = pending_in (records_of b)

-- "a book with a pending record" or "with a record whose crew is not 0"
unfoldable pub has_marked : Book → Bool
has_marked b = some_circuit (records_of b) is_marked

-- "n, w, the number of grants so far and 512 places, one circuit record per place", with these records
abbrev pub book_of : ℕ → ℕ → ℕ → List Circuit → Book
book_of n w grants cs = record { n = n; w = w; grants = grants; records = length cs; places = cs ++ replicate (512 - length cs) vacant }

-- records, live and pending, that a book on n nodes with w colours can have after so many grants
pub record ValidCircuits (n w grants : ℕ) (cs : List Circuit) : Type 0 where
  -- "one circuit record per place", of 512 places
  pub room : length cs ≤ 512
  -- "Serials rise from 1", up to the grants so far
  pub given : (i : ℕ) → i < length cs → (1 ≤ (circuit cs i).serial) × ((circuit cs i).serial ≤ grants)
  -- "and are never given twice"
  pub rising : (i j : ℕ) → i < j → j < length cs → (circuit cs i).serial < (circuit cs j).serial
  -- "A request is two different nodes", of nodes 0 to n - 1, "a is the smaller and b the larger"
  pub ends : (i : ℕ) → i < length cs → ((circuit cs i).a < (circuit cs i).b) × ((circuit cs i).b < n)
  -- "Colours run from 0 to w−1"
  pub colours : (i : ℕ) → i < length cs → (circuit cs i).colour < w
  -- "a crew number, 0 to 999"
  pub crews : (i : ℕ) → i < length cs → (circuit cs i).crew ≤ 999
  -- no two circuits hold one colour on one link
  pub apart : (i j : ℕ) → i < j → j < length cs → (link colour : ℕ) → link < n → holds (circuit cs i) link colour ≡ true
      → holds (circuit cs j) link colour ≡ false

-- a book that open or load gave, or that was reached from one by calls
pub record Valid (b : Book) : Type 0 where
  pub nodes : (3 ≤ b.n) × (b.n ≤ 256)
  pub colours : (1 ≤ b.w) × (b.w ≤ 128)
  -- "Serials are 16 bits"
  pub few : b.grants ≤ 65535
  -- the records first, vacant ones behind them
  pub form : b ≡ book_of b.n b.w b.grants (records_of b)
  pub circuits : ValidCircuits b.n b.w b.grants (records_of b)

-- books "are the same if n, w, grants so far and live circuits agree", and "only if their pending circuits agree too"; a circuit has its
-- crew: "Crews count when two books are compared"
pub record Same (b d : Book) : Type 0 where
  pub nodes : b.n ≡ d.n
  pub colours : b.w ≡ d.w
  pub grants : b.grants ≡ d.grants
  pub live : live_of b ≡ live_of d
  pub pending : pending_of b ≡ pending_of d

-- the promise that valid books are the same only if they are equal: their form settles the places
abbrev pub SameMeans : Type 0
SameMeans = (b d : Book) → Valid b → Valid d → Same b d → b ≡ d

-- what comes of an opening: its answer, and a book
pub record Opened : Type 0 where
  pub answer : Result ⊤ Refusal
  pub book : Book

-- a book of no nodes, which turns every call down
abbrev pub no_nodes : Book
no_nodes = book_of 0 0 0 []

-- an answer that gives a book, or a refusal; with a refusal stands the book of no nodes
abbrev pub opening_of : Result Book Refusal → Opened
opening_of (Ok b) = record { answer = Ok tt; book = b }
opening_of (Err r) = record { answer = Err r; book = no_nodes }

-- a new book, or none: a book of no nodes
abbrev pub open_unless : Verdict → ℕ → ℕ → Opened
open_unless (Ok allowed) n w = record { answer = Ok tt; book = book_of n w 0 [] }
open_unless (Err r) n w = record { answer = Err r; book = no_nodes }

-- open: "1, 2"
unfoldable pub opened : ℕ → ℕ → Opened
opened n w = open_unless (ring_verdict n w) n w

-- its answer in numbers
abbrev pub open_in_numbers : Result ⊤ Refusal → InNumbers
open_in_numbers (Ok done) = gives []
open_in_numbers (Err r) = refuses r

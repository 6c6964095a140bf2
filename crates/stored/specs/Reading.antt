-- What stored bytes tell: blocks, records, a book.
use Rattle.std.specs.Prelude.{ℕ, zero, suc, ◌+◌, ◌-◌, ◌*◌, ◌/◌, min, Bool, true, ◌&&◌, List, [], ◌∷◌, ◌++◌, eqb, length, take, drop}
use Rattle.ring.specs.declared.fates.Fate.{Fate}
use Rattle.ring.specs.declared.fates.Fate.TheVariants.{Blocked, Served}
use Rattle.ring.specs.Fates.{fate_of}
use Rattle.book.specs.declared.circuits.RecordState.{RecordState}
use Rattle.book.specs.declared.circuits.RecordState.TheVariants.{Live, Pending}
use Rattle.book.specs.declared.circuits.Circuit.{Circuit}
use Rattle.book.specs.declared.books.Book.{Book}
use Rattle.book.specs.Circuits.{vacant, desk}
use Rattle.book.specs.Books.{book_of}
use Rattle.stored.specs.declared.forms.Form.{Form}
use Rattle.stored.specs.declared.forms.Form.TheVariants.{Old, New}
use Rattle.stored.specs.Blocks.{word_at, check_of}
use Rattle.stored.specs.Forms.{record_size, block_records}

-- "Each later block is read from its own place in the buffer"
abbrev pub part_of : List ℕ → ℕ → List ℕ
part_of bytes k = take 512 (drop (k * 512) bytes)

-- no "wrong block number or check"
unfoldable pub block_right : ℕ → List ℕ → Bool
block_right k block = eqb (word_at block 508) k && eqb (word_at block 510) (check_of block)

-- none in the first k blocks
abbrev pub blocks_right : List ℕ → ℕ → Bool
blocks_right bytes zero = true
blocks_right bytes (suc k) = blocks_right bytes k && block_right k (part_of bytes k)

-- the crew of the record at a position: a circuit loaded from the old form "has crew 0"
abbrev pub crew_at : Form → List ℕ → ℕ → ℕ
crew_at Old block at = desk
crew_at New block at = word_at block (at + 8)

-- "0 live, 1 pending"; any other number is that of no state, and is not stored again as it was read
abbrev pub state_of : ℕ → RecordState
state_of zero = Live
state_of (suc k) = Pending

-- the state of the record at a position: in the old form "all live"
abbrev pub state_at : Form → List ℕ → ℕ → RecordState
state_at Old block at = Live
state_at New block at = state_of (word_at block (at + 10))

-- the circuit of a record; fate number 0 tells none, and gets the vacant record
abbrev pub circuit_from : ℕ → ℕ → ℕ → Fate → ℕ → RecordState → Circuit
circuit_from serial a b (Served way colour) crew state =
    record { serial = serial; a = a; b = b; way = way; colour = colour; crew = crew; state = state }
circuit_from serial a b Blocked crew state = vacant

-- the record at a position: "serial, a, b, fate number", crew, state
unfoldable pub circuit_at : Form → List ℕ → ℕ → Circuit
circuit_at form block at =
    circuit_from (word_at block at) (word_at block (at + 2)) (word_at block (at + 4)) (fate_of (word_at block (at + 6)))
    (crew_at form block at) (state_at form block at)

-- where record i of a block stands
unfoldable pub record_place : Form → ℕ → ℕ
record_place form i = record_size form * i

-- the first records of a block
abbrev pub records_in : Form → List ℕ → ℕ → List Circuit
records_in form block zero = []
records_in form block (suc i) = records_in form block i ++ (circuit_at form block (record_place form i) ∷ [])

-- the circuits read so far, and those of one block more, as many as are left of the count
abbrev pub read_on : Form → ℕ → List Circuit → List ℕ → List Circuit
read_on form count cs block = cs ++ records_in form block (min (block_records form) (count - length cs))

-- the circuits of the first k later blocks
abbrev pub circuits_in : Form → List ℕ → ℕ → ℕ → List Circuit
circuits_in form bytes count zero = []
circuits_in form bytes count (suc k) = read_on form count (circuits_in form bytes count k) (part_of bytes (suc k))

-- the book that the bytes tell; of more than 512 records the first 512
unfoldable pub book_in : Form → List ℕ → Book
book_in form bytes = book_of (word_at (part_of bytes 0) 0) (word_at (part_of bytes 0) 2) (word_at (part_of bytes 0) 4)
    (circuits_in form bytes (min 512 (word_at (part_of bytes 0) 6)) (length bytes / 512 - 1))

-- The two stored forms of a book. The old one has no room for states and crews: it is that of a book whose records are live and the desk's.
use Rattle.std.specs.Prelude.{ℕ, zero, suc, ◌+◌, ◌-◌, ◌*◌, ◌/◌, List, [], ◌∷◌, ◌++◌, length, take, drop}
use Rattle.ring.specs.declared.fates.Fate.TheVariants.{Served}
use Rattle.ring.specs.Fates.{fate_number}
use Rattle.book.specs.declared.circuits.RecordState.{RecordState}
use Rattle.book.specs.declared.circuits.RecordState.TheVariants.{Live, Pending}
use Rattle.book.specs.declared.circuits.Circuit.{Circuit}
use Rattle.book.specs.declared.books.Book.{Book}
use Rattle.book.specs.Books.{records_of}
use Rattle.stored.specs.declared.forms.Form.{Form}
use Rattle.stored.specs.declared.forms.Form.TheVariants.{Old, New}
use Rattle.stored.specs.Blocks.{word, block_of}

-- "records of 8 bytes", and "Records have 12 bytes"
abbrev pub record_size : Form → ℕ
record_size Old = 8
record_size New = 12

-- "up to 63 records", and "42 to a block"
abbrev pub block_records : Form → ℕ
block_records Old = 63
block_records New = 42

-- zeros behind the count field, and "Byte 8 of block 0 becomes 2"
abbrev pub form_mark : Form → ℕ
form_mark Old = 0
form_mark New = 2

-- "above 5,120", and "The longest is 7,168 bytes"
abbrev pub longest : Form → ℕ
longest Old = 5120
longest New = 7168

-- "a state byte (0 live, 1 pending)"
abbrev pub state_number : RecordState → ℕ
state_number Live = 0
state_number Pending = 1

-- "serial, a, b, fate number"
abbrev pub fields_bytes : Circuit → List ℕ
fields_bytes c = word c.serial ++ (word c.a ++ (word c.b ++ word (fate_number (Served c.way c.colour))))

-- "crew in 16 bits, a state byte .., a zero": the low byte of a number below 256, and its high one; none in the old form
abbrev pub marks_bytes : Form → Circuit → List ℕ
marks_bytes Old c = []
marks_bytes New c = word c.crew ++ word (state_number c.state)

-- "the old 8" and, in the new form, crew and state
abbrev pub record_bytes : Form → Circuit → List ℕ
record_bytes form c = fields_bytes c ++ marks_bytes form c

-- the records one behind the other
abbrev pub records_bytes : Form → List Circuit → List ℕ
records_bytes form [] = []
records_bytes form (c ∷ cs) = record_bytes form c ++ records_bytes form cs

-- "Block 0 holds n, w, grants so far and live count, then zeros", "the count field counts all records"; byte 8 tells the form
abbrev pub header_bytes : Form → Book → List ℕ
header_bytes form b =
    word b.n ++ (word b.w ++ (word b.grants ++ (word (length (records_of b)) ++ word (form_mark form))))

-- the number of the first record of the k-th later block: all before it are full
unfoldable pub first_record : Form → ℕ → ℕ
first_record form k = block_records form * k

-- the circuits of the k-th later block: "by rising serial, filled in order"
abbrev pub circuits_of : Form → Book → ℕ → List Circuit
circuits_of form b k = take (block_records form) (drop (first_record form k) (records_of b))

-- what a block holds before the zeros
abbrev pub contents : Form → Book → ℕ → List ℕ
contents form b zero = header_bytes form b
contents form b (suc k) = records_bytes form (circuits_of form b k)

-- the first k blocks, one behind the other
abbrev pub blocks : Form → Book → ℕ → List ℕ
blocks form b zero = []
blocks form b (suc k) = blocks form b k ++ block_of k (contents form b k)

-- a later block for every group of records that is begun
unfoldable pub later_blocks : Form → ℕ → ℕ
later_blocks form count = (count + (block_records form - 1)) / block_records form

-- block 0, and the later ones
abbrev pub block_count : Form → ℕ → ℕ
block_count form count = later_blocks form count + 1

-- "Blocks of 512 bytes": "the length for each live count, 0 to 512", and for each number of records in the new form
abbrev pub stored_length : Form → ℕ → ℕ
stored_length form count = 512 * block_count form count

-- "The stored form", "New stored form"
unfoldable pub stored_form : Form → Book → List ℕ
stored_form form b = blocks form b (block_count form (length (records_of b)))

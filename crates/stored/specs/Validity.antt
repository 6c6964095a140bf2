-- The tests for a valid book.
use Rattle.std.specs.Prelude.{ℕ, zero, suc, Bool, true, not, ◌&&◌, List, leb, ltb, length, take}
use Rattle.book.specs.declared.circuits.Circuit.{Circuit}
use Rattle.book.specs.declared.books.Book.{Book}
use Rattle.book.specs.Circuits.{circuit, ends_of}
use Rattle.book.specs.Books.{records_of}
use Rattle.book.specs.Grants.{held_on_way}

-- "a limit above": n from 3 to 256, w from 1 to 128
unfoldable pub ring_fits : ℕ → ℕ → Bool
ring_fits n w = (leb 3 n && leb n 256) && (leb 1 w && leb w 128)

-- two nodes in order, a colour and a crew
unfoldable pub circuit_fits : ℕ → ℕ → Circuit → Bool
circuit_fits n w c = (ltb c.a c.b && ltb c.b n) && (ltb c.colour w && leb c.crew 999)

-- "a rising serial from 1 up to the grants so far"
unfoldable pub serial_fits : ℕ → ℕ → ℕ → Bool
serial_fits last grants serial = ltb last serial && leb serial grants

-- a circuit behind others, the last of which has this serial: its limits, its serial, "feasibility"
unfoldable pub may_follow : Book → List Circuit → ℕ → Circuit → Bool
may_follow b earlier last c =
    (circuit_fits b.n b.w c && serial_fits last b.grants c.serial)
    && not (held_on_way b.n earlier c.way (ends_of c) c.colour)

-- the serial before place i
abbrev pub last_serial : List Circuit → ℕ → ℕ
last_serial cs zero = 0
last_serial cs (suc i) = (circuit cs i).serial

-- each of the first i records may follow those before it
abbrev pub circuits_fit : Book → ℕ → Bool
circuits_fit b zero = true
circuits_fit b (suc i) = circuits_fit b i && may_follow b (take i (records_of b)) (last_serial (records_of b) i) (circuit (records_of b) i)

-- all of it
unfoldable pub book_fits : Book → Bool
book_fits b = ring_fits b.n b.w && circuits_fit b (length (records_of b))

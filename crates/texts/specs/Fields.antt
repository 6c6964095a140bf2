-- Numbers in a text: one closed by a byte, and a line of two.
use Rattle.std.specs.Prelude.{ℕ, ◌+◌, ◌*◌, ◌-◌, Bool, cond, ◌&&◌, List, [], ◌∷◌, eqb, leb, ltb}

-- the byte that closes a number with another behind it: "one space between"
abbrev pub space : ℕ
space = 32

-- and the last one: "every line closed by a line feed"
abbrev pub line_feed : ℕ
line_feed = 10

-- a number at the start of a text, and the text behind the byte that closes it
pub data Field : Type 0 where
  missing : Field
  found : ℕ → List ℕ → Field

-- one more digit, of so many that a number may have
abbrev pub one_more : ℕ → ℕ → ℕ → Bool
one_more most b count = (leb 48 b && leb b 57) && ltb count most

-- the byte closes the number, which has a digit and is within the limit
abbrev pub closes : ℕ → ℕ → ℕ → ℕ → ℕ → Bool
closes limit close b count value = eqb b close && (ltb 0 count && leb value limit)

-- a number of at most so many digits, up to the limit, closed by this byte, after so many digits of such a value
abbrev pub field_from : ℕ → ℕ → ℕ → ℕ → ℕ → List ℕ → Field
field_from most limit close count value [] = missing
field_from most limit close count value (b ∷ text) =
    cond (one_more most b count) (field_from most limit close (count + 1) (10 * value + (b - 48)) text)
    (cond (closes limit close b count value) (found value text) missing)

-- "numbers of 1 to 5 digits up to 65,535": the number at the start of a text, closed by this byte
unfoldable pub field : ℕ → List ℕ → Field
field close text = field_from 5 65535 close 0 0 text

-- "numbers of 1 to 10 digits up to 4,294,967,295"
unfoldable pub long_field : ℕ → List ℕ → Field
long_field close text = field_from 10 4294967295 close 0 0 text

-- what follows from a number and the text behind it, and what where there is none
abbrev pub on_field : {A : Type 0} → Field → A → (ℕ → List ℕ → A) → A
on_field missing otherwise next = otherwise
on_field (found value text) otherwise next = next value text

-- a line of two ends, and the text behind it
pub data Line : Type 0 where
  broken : Line
  two : ℕ → ℕ → List ℕ → Line

-- "lines of two ends, .. one space between, every line closed by a line feed"
unfoldable pub line : List ℕ → Line
line text =
    on_field (field space text) broken (λ x behind. on_field (field line_feed behind) broken (λ y rest. two x y rest))

-- what follows from a line and the text behind it, and what where there is none
abbrev pub on_line : {A : Type 0} → Line → A → (ℕ → ℕ → List ℕ → A) → A
on_line broken otherwise next = otherwise
on_line (two x y text) otherwise next = next x y text

-- this, if nothing is left of the text, or that
abbrev pub ended : {A : Type 0} → List ℕ → A → A → A
ended [] this that = this
ended (b ∷ text) this that = that

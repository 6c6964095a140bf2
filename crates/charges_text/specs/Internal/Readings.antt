-- What the functions inside read, as the definitions have it.
use Rattle.std.specs.Prelude.{ℕ, List, Option, Some, None, take}
use Rattle.charges_text.specs.Reading.{Lines, unfit, all, Reading, unreadable, readable}
use Rattle.charges_text.specs.declared.reading.Reading.{Reading as Said}

-- the lengths, which stand first in a buffer
abbrev pub lengths_in : List ℕ → Option ℕ → Lines
lengths_in buffer None = unfit
lengths_in buffer (Some count) = all (take count buffer)

-- the whole text, whose lengths stand first in a buffer
abbrev pub reading_in : List ℕ → Option Said → Reading
reading_in buffer None = unreadable
reading_in buffer (Some said) = readable said.rates (take said.count buffer)

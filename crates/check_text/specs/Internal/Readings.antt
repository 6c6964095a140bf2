-- What is read, as the definition has it.
use Rattle.std.specs.Prelude.{ℕ, ◌*◌, List, Option, Some, None, take}
use Rattle.plan_text.specs.declared.reading.Numbers.{Numbers}
use Rattle.check_text.specs.Reading.{Reading, unreadable, readable}

-- the whole text, whose ends and table stand first in two buffers
abbrev pub reading_in : List ℕ → List ℕ → Option Numbers → Reading
reading_in ends table None = unreadable
reading_in ends table (Some line) = readable line.n line.w (take (2 * line.m) ends) (take line.m table)

-- What the functions inside read, with what is left of the text behind it, as the definitions have it.
use Rattle.std.specs.Prelude.{ℕ, ◌*◌, List, Option, Some, None, ⊤, take}
use Rattle.plan_text.specs.Reading.{Lines, unfit, all, Heading, none, numbers, Reading, unreadable, readable}
use Rattle.plan_text.specs.declared.reading.Numbers.{Numbers}

-- the first line, and what is left behind it
abbrev pub heading_read : Option Numbers → List ℕ → Heading
heading_read None rest = none
heading_read (Some line) rest = numbers line.n line.w line.m rest

-- the numbers of the lines, and what is left behind them
abbrev pub lines_read : Option ⊤ → List ℕ → List ℕ → Lines
lines_read None ends rest = unfit
lines_read (Some done) ends rest = all ends rest

-- the whole text, whose ends stand first in a buffer
abbrev pub reading_in : List ℕ → Option Numbers → Reading
reading_in buffer None = unreadable
reading_in buffer (Some line) = readable line.n line.w (take (2 * line.m) buffer)

-- Words with numbers behind them.
use Rattle.std.specs.Prelude.{ℕ, List, ◌++◌}
use Rattle.ring.specs.declared.ways.Way.{Way}
use Rattle.ring.specs.declared.ways.Way.TheVariants.{Plain, Seam}
use Rattle.texts.specs.Bytes.{bytes}
use Rattle.texts.specs.Decimal.{decimal}

-- a word of the text, and a number behind it
unfoldable pub labelled : List ℕ → ℕ → List ℕ
labelled word n = word ++ decimal n

-- "P (plain) or S (seam) and the colour"
abbrev pub way_ending : Way → ℕ → List ℕ
way_ending Plain colour = labelled (bytes " P ") colour
way_ending Seam colour = labelled (bytes " S ") colour

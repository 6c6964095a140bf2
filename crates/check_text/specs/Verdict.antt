-- The line that the checking program prints, as bytes.
use Rattle.std.specs.Prelude.{ℕ, List, [], ◌++◌, Result, Ok, Err}
use Rattle.ring.specs.declared.refusals.Refusal.{Refusal}
use Rattle.ring.specs.declared.refusals.Carried.{Carried}
use Rattle.ring.specs.declared.refusals.Carried.TheVariants.{None, One, Two}
use Rattle.ring.specs.Refusals.{number_of, carried_by}
use Rattle.texts.specs.Bytes.{bytes}
use Rattle.texts.specs.Layout.{labelled}

-- "the values that the refusal carries, each after one space"
abbrev pub carried_text : Carried → List ℕ
carried_text None = []
carried_text (One first) = labelled (bytes " ") first
carried_text (Two first second) = labelled (bytes " ") first ++ labelled (bytes " ") second

-- "`refused`, its number and the values that the refusal carries"
unfoldable pub refusal_line : Refusal → List ℕ
refusal_line refusal =
    labelled (bytes "refused ") (number_of refusal) ++ (carried_text (carried_by refusal) ++ bytes "\n")

-- "`served` and the number served"
unfoldable pub served_line : ℕ → List ℕ
served_line served = labelled (bytes "served ") served ++ bytes "\n"

-- "It prints one line": that of an answer of the check
abbrev pub verdict_line : Result ℕ Refusal → List ℕ
verdict_line (Ok served) = served_line served
verdict_line (Err refusal) = refusal_line refusal

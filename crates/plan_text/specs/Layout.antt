-- The lines that the planning program prints, as bytes.
use Rattle.std.specs.Prelude.{ℕ, ◌+◌, List, [], ◌∷◌, ◌++◌, take, Result, Ok, Err}
use Rattle.ring.specs.declared.fates.Fate.{Fate}
use Rattle.ring.specs.declared.fates.Fate.TheVariants.{Blocked, Served}
use Rattle.ring.specs.declared.refusals.Refusal.{Refusal}
use Rattle.ring.specs.Plans.{fates_of}
use Rattle.ring.specs.Refusals.{number_of}
use Rattle.texts.specs.Bytes.{bytes}
use Rattle.texts.specs.Decimal.{decimal}
use Rattle.texts.specs.Layout.{labelled, way_ending}
use Rattle.planner.specs.declared.answers.Part.{Part}
use Rattle.planner.specs.declared.answers.Part.TheVariants as part
use Rattle.planner.specs.declared.answers.Summary.{Summary}

-- "Line 1 repeats n, w and m.": `plan n w m`
unfoldable pub plan_line : ℕ → ℕ → ℕ → List ℕ
plan_line n w m =
    labelled (bytes "plan ") n ++ (labelled (bytes " ") w ++ (labelled (bytes " ") m ++ bytes "\n"))

-- "the part used (chain or pair)"
abbrev pub part_word : Part → List ℕ
part_word part.Chain = bytes "chain"
part_word part.Pair = bytes "pair"

-- "Line 2 gives" the counts, "the part used" and "the ceiling": `chain C match M pair P used chain ceiling N`, or `used pair`
unfoldable pub counts_line : Summary → List ℕ
counts_line counts =
    labelled (bytes "chain ") counts.chain
    ++ (labelled (bytes " match ") counts.matched
    ++ (labelled (bytes " pair ") counts.paired
    ++ (bytes " used " ++ (part_word counts.used ++ (labelled (bytes " ceiling ") counts.ceiling ++ bytes "\n")))))

-- "then B, or P (plain) or S (seam) and the colour"
abbrev pub fate_ending : Fate → List ℕ
fate_ending Blocked = bytes " B\n"
fate_ending (Served way colour) = way_ending way colour ++ bytes "\n"

-- "a request number, then B, or P (plain) or S (seam) and the colour"
unfoldable pub fate_line : ℕ → Fate → List ℕ
fate_line i fate = decimal i ++ fate_ending fate

-- the lines of the requests from number i on
abbrev pub fate_lines : ℕ → List Fate → List ℕ
fate_lines i [] = []
fate_lines i (fate ∷ fates) = fate_line i fate ++ fate_lines (i + 1) fates

-- the lines of a plan
unfoldable pub plan_text : ℕ → ℕ → ℕ → Summary → List Fate → List ℕ
plan_text n w m counts fates = plan_line n w m ++ (counts_line counts ++ fate_lines 0 fates)

-- "A refusal prints the one line `refused` and its number."
unfoldable pub refused_line : ℕ → List ℕ
refused_line number = labelled (bytes "refused ") number ++ bytes "\n"

-- the whole output for an answer of plan: m requests, whose fates the first m entries of the table are
unfoldable pub answer_text : ℕ → ℕ → ℕ → Result Summary Refusal → List ℕ → List ℕ
answer_text n w m (Ok counts) table = plan_text n w m counts (fates_of (take m table))
answer_text n w m (Err refusal) table = refused_line (number_of refusal)

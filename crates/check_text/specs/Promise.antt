-- What the checking program's text function promises.
use Rattle.std.specs.Prelude.{ℕ, List, Result, Err}
use Rattle.ring.specs.declared.refusals.Refusal.{Refusal}
use Rattle.ring.specs.declared.refusals.Refusal.TheVariants.{TextForm}
use Rattle.texts.specs.Outputs.{Output}
use Rattle.checker.specs.Check.{check_answer}
use Rattle.check_text.specs.Reading.{Reading, unreadable, readable, reading_of}
use Rattle.check_text.specs.Verdict.{verdict_line}

-- "21 first .. Then as Check.": the answer to what a text says
abbrev pub answer_to : Reading → Result ℕ Refusal
answer_to unreadable = Err TextForm
answer_to (readable n w ends table) = check_answer n w ends table

-- the line for a text
unfoldable pub line_for : List ℕ → List ℕ
line_for text = verdict_line (answer_to (reading_of text))

-- the promise: no line is longer than 32 bytes
abbrev pub CheckTextPromise : List ℕ → List ℕ → List ℕ → ℕ → Type 0
CheckTextPromise text before after size = Output 32 (line_for text) before after size

-- What the planning program's text function promises.
use Rattle.std.specs.Prelude.{ℕ, ◌/◌, ◌≤◌, ◌<◌, ◌≡◌, List, ◌++◌, length, drop, replicate, Result}
use Rattle.ring.specs.declared.refusals.Refusal.{Refusal}
use Rattle.planner.specs.declared.answers.Summary.{Summary}
use Rattle.planner.specs.Promise.{PlanPromise}
use Rattle.plan_text.specs.Reading.{numbers, heading, Reading, unreadable, readable, reading_of}
use Rattle.plan_text.specs.Layout.{refused_line, answer_text}

-- "Then as Plan": the output is the text of an answer of plan, with a table of 512 entries. Which maximum matching is found is open there
pub record PlanOutput (n w : ℕ) (ends output : List ℕ) : Type 0 where
  pub table : List ℕ
  pub result : Result Summary Refusal
  pub promise : PlanPromise n w ends (replicate 512 0) table result
  pub same : output ≡ answer_text n w (length ends / 2) result table

-- "21 first: more than 8,192 bytes, or a text not of the stated form. Then as Plan."
abbrev pub OutputFor : Reading → List ℕ → Type 0
OutputFor unreadable output = output ≡ refused_line 21
OutputFor (readable n w ends) output = PlanOutput n w ends output

-- the buffer begins with an output of the right kind, whole; its length is given, and the rest stays
pub record Printed (Right : List ℕ → Type 0) (before after : List ℕ) (size : ℕ) : Type 0 where
  pub output : List ℕ
  pub right : Right output
  pub whole : size ≡ length output
  pub buffer : after ≡ output ++ drop (length output) before

-- the promise: no output is longer than 8,192 bytes, so that a buffer of that length gets it whole; a shorter one gets nothing
pub record AnswerPromise (text before after : List ℕ) (size : ℕ) : Type 0 where
  pub short : length before < 8192 → (size ≡ 0) × (after ≡ before)
  pub printed : 8192 ≤ length before → Printed (OutputFor (reading_of text)) before after size

-- "Line 1 repeats n, w and m": the number of requests that it prints is the m of the text's first line
abbrev pub RepeatsCount : Type 0
RepeatsCount = (text : List ℕ) (n w m : ℕ) (lines ends : List ℕ) → heading text ≡ numbers n w m lines → reading_of text ≡ readable n w ends
    → length ends / 2 ≡ m

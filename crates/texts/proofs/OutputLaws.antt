-- Outputs: none in a short buffer, and one that is written.
use Prim.Native.Nat.{ℕ, ◌+◌, ◌-◌, ◌≤◌, ◌<◌}
use mathlib.Core.Path.{◌≡◌, refl, ◌∙◌, ap}
use mathlib.Core.List.{List}
use native.Mathlib.Omega.{arith}
use lib.ListN.{length, length-append, length-drop}
use Rattle.texts.specs.declared.writing.Writer.{Writer}
use Rattle.texts.specs.Outputs.{Output}
use Rattle.texts.specs.Internal.Writing.{Begun, Wrote}
use Rattle.texts.proofs.WritingLaws.{wrote_front}

-- a short buffer gets nothing
pub output_short : (least : ℕ) (text out : List ℕ) → length out < least → Output least text out out 0
output_short least text out h =
    record { short = λ l. (refl, refl); whole = λ l. absurd (omega arith); buffer = λ l. absurd (omega arith) }

-- a text that is written from the start on
pub output_written : {least : ℕ} {shown text out : List ℕ} {before after : Writer} → least ≤ length out → shown ≡ text
    → Begun out before → Wrote before shown after → Output least text out after.out.now after.at
output_written {least} {shown} {text} {out} {before} {after} h e b t =
    let front = wrote_front b (rw e at t) in
    record { short = λ l. absurd (omega arith); whole = λ l. front.0; buffer = λ l. front.1 }

-- it stands within the buffer
pub output_fits : {least : ℕ} {text before after : List ℕ} {size : ℕ} → Output least text before after size → least ≤ length before
    → length after ≡ length before
    → size ≤ length after
output_fits {least} {text} {before} {after} {size} s h kept =
    let whole = s.whole h in
    let total : length after ≡ length text + (length before - length text) = ap length (s.buffer h) ∙ simp (length-append, length-drop) in
    omega arith

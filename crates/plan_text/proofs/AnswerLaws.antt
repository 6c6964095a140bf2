-- The output as a whole.
use Prim.Native.Nat.{ℕ, ◌+◌, ◌-◌, ◌/◌, ◌≤◌, ◌<◌}
use mathlib.Core.Path.{◌≡◌, refl, ◌∙◌, ap}
use mathlib.Core.List.{List}
use native.Mathlib.Omega.{arith}
use lib.ListN.{length, take, replicate, length-append, length-drop}
use lib.Seq.{length-take-le}
use Rattle.ring.specs.declared.refusals.Refusal.{Refusal}
use Rattle.ring.specs.Refusals.{Verdict}
use Rattle.std.specs.Prelude.{Result, Ok, Err}
use Rattle.ring.specs.Plans.{fates_of}
use Rattle.ring.specs.Refusals.{number_of}
use Rattle.ring.specs.Admission.{call_verdict}
use Rattle.ring.proofs.AdmissionLaws.{call_limits}
use Rattle.planner.specs.declared.answers.Summary.{Summary}
use Rattle.planner.specs.Promise.{PlanPromise}
use Rattle.plan_text.specs.Reading.{unreadable, readable, reading_of}
use Rattle.plan_text.specs.Layout.{plan_text, refused_line, answer_text}
use Rattle.plan_text.specs.Promise.{OutputFor, AnswerPromise}
use Rattle.plan_text.specs.Internal.Printing.{WroteRight}
use Rattle.texts.specs.declared.writing.Writer.{Writer}
use Rattle.texts.specs.Internal.Writing.{Begun, Wrote}
use Rattle.texts.proofs.WritingLaws.{wrote_front}

-- a call that is planned has at most 512 requests
pub planned_few : {n w : ℕ} {ends before after : List ℕ} {r : Result Summary Refusal} {counts : Summary} → PlanPromise n w ends before after r
    → r ≡ Ok counts
    → length ends / 2 ≤ 512
planned_few {n} {w} {ends} {before} {after} {r} {counts} s e = by (call_verdict n w ends (length before)) refl
  where
    by : (v : Verdict) → call_verdict n w ends (length before) ≡ v → length ends / 2 ≤ 512
    by (Ok allowed) q =
        let limits = call_limits n w ends (length before) q in
        let few = limits.list.valid.few in
        let even = limits.list.even in
        omega arith
    by (Err ground) q =
        let told = (s.refused ground q).0 in
        let z : ◌≡◌ {A = ℕ} 0 1 = cc in
        absurd (omega arith)

-- the output of plan, printed
pub printed_refused : (text : List ℕ) {n w : ℕ} {ends table : List ℕ} {r : Result Summary Refusal} {ground : Refusal} {number : ℕ} {before after : Writer}
    → readable n w ends ≡ reading_of text → PlanPromise n w ends (replicate 512 0) table r → r ≡ Err ground
    → number ≡ number_of ground
    → Wrote before (refused_line number) after → WroteRight (OutputFor (reading_of text)) before after
unfolding answer_text
printed_refused text {n} {w} {ends} {table} {r} {ground} {number} said s e q t =
    record {
      output = refused_line number;
      right = rw (← said) (record { table = table; result = r; promise = s; same = rw (e, q) refl });
      wrote = t;
    }

pub printed_planned : (text : List ℕ) {n w : ℕ} {ends table : List ℕ} {r : Result Summary Refusal} {counts : Summary} {before after : Writer}
    → readable n w ends ≡ reading_of text → PlanPromise n w ends (replicate 512 0) table r → r ≡ Ok counts
    → length ends / 2 ≤ length table
    → Wrote before
    (plan_text n w (length (take (length ends / 2) table)) counts (fates_of (take (length ends / 2) table))) after
    → WroteRight (OutputFor (reading_of text)) before after
unfolding answer_text
printed_planned text {n} {w} {ends} {table} {r} {counts} said s e few t =
    let m = length ends / 2 in
    let size : length (take m table) ≡ m = length-take-le m table few in
    record {
      output = plan_text n w m counts (fates_of (take m table));
      right = rw (← said) (record { table = table; result = r; promise = s; same = rw e refl });
      wrote = rw size at t;
    }

-- a short buffer gets nothing
pub answer_short : (text out : List ℕ) → length out < 8192 → AnswerPromise text out out 0
answer_short text out h = record { short = λ l. (refl, refl); printed = λ l. absurd (omega arith) }

-- the refusal of a text that says nothing
pub printed_unreadable : (text : List ℕ) {number : ℕ} {before after : Writer} → unreadable ≡ reading_of text → number ≡ 21
    → Wrote before (refused_line number) after → WroteRight (OutputFor (reading_of text)) before after
printed_unreadable text {number} e q t = record { output = refused_line number; right = rw (← e, q) refl; wrote = t }

-- the whole output, printed
pub answer_printed : {text out : List ℕ} {before after : Writer} → 8192 ≤ length out → Begun out before
    → WroteRight (OutputFor (reading_of text)) before after
    → AnswerPromise text out after.out.now after.at
answer_printed {text} {out} {before} {after} h b t =
    let front = wrote_front b t.wrote in
    record {
      short = λ l. absurd (omega arith);
      printed = λ l. record { output = t.output; right = t.right; whole = front.0; buffer = front.1 };
    }

-- the output stands within the buffer
pub answer_fits : {text before after : List ℕ} {size : ℕ} → AnswerPromise text before after size → 8192 ≤ length before
    → length after ≡ length before
    → size ≤ length after
answer_fits {text} {before} {after} {size} s h kept =
    let printed = s.printed h in
    let total : length after ≡ length printed.output + (length before - length printed.output) =
    ap length printed.buffer ∙ simp (length-append, length-drop) in
    omega arith

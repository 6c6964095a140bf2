-- The texts of cases T1 and T10: what they say, and how their answers are printed.
use mathlib.Core.Path.{◌≡◌, refl, ap, ◌∙◌}
use mathlib.Core.List.{[], ◌∷◌}
use native.Mathlib.Omega.{arith}
use lib.ListN.{length, replicate}
use Rattle.ring.specs.declared.refusals.Refusal.TheVariants.{Conflict}
use Rattle.ring.specs.Ways.{uses, some_link, share_link}
use Rattle.ring.specs.Fates.{fate_of, fate_number}
use Rattle.ring.specs.Plans.{served}
use Rattle.ring.specs.Admission.{ring_verdict, ends_verdict, request_verdicts, count_verdict, list_verdict, call_verdict}
use Rattle.std.specs.Prelude.{Ok, Err}
use Rattle.checker.specs.Check.{first_ground, number_verdict, number_verdicts, conflicting, pair_verdict, later_verdict, pair_verdicts}
use Rattle.checker.specs.Check.{table_answer, check_answer}
use Rattle.planner.specs.declared.answers.Part.TheVariants as part
use Rattle.texts.specs.Bytes.{bytes}
use Rattle.texts.specs.Decimal.{decimal}
use Rattle.texts.specs.Fields.{field, line}
use Rattle.texts.specs.Layout.{labelled}
use Rattle.plan_text.specs.Reading.{heading, form_of, reading_of, readable}
use Rattle.plan_text.specs.Layout.{plan_line, counts_line, fate_line, plan_text, answer_text}
use Rattle.check_text.specs.Reading as check-reading
use Rattle.check_text.specs.Verdict.{refusal_line, served_line}
use Rattle.check_text.specs.Promise.{line_for}
use Rattle.cases.specs.Table.{line2, Prints, ends_t1, plan_t1, ends_t4}
use Rattle.cases.proofs.Plans.{plans_t1}

input_t1_read : reading_of (bytes "8 1 4\n0 3\n3 6\n6 0\n1 4\n") ≡ readable 8 1 ends_t1
unfolding reading_of form_of heading line field
input_t1_read = refl

output_t1_printed : plan_text 8 1 4 (line2 2 2 2 part.Chain 3) plan_t1
    ≡ bytes "plan 8 1 4\nchain 2 match 2 pair 2 used chain ceiling 3\n0 P 0\n1 P 0\n2 B\n3 B\n"
unfolding plan_text plan_line counts_line fate_line labelled decimal
output_t1_printed = refl

pub prints_t1 : Prints (bytes "8 1 4\n0 3\n3 6\n6 0\n1 4\n")
    (bytes "plan 8 1 4\nchain 2 match 2 pair 2 used chain ceiling 3\n0 P 0\n1 P 0\n2 B\n3 B\n")
unfolding answer_text fate_of fate_number
prints_t1 before after size room promise =
    let printed = promise.printed room in
    let right = rw input_t1_read at printed.right in
    let planned = plans_t1 (replicate 512 0) right.table right.result (omega arith) right.promise in
    let text : answer_text 8 1 4 right.result right.table ≡ plan_text 8 1 4 (line2 2 2 2 part.Chain 3) plan_t1 =
    rw (planned.0, planned.1) refl in
    let output = (right.same ∙ text) ∙ output_t1_printed in
    (printed.whole ∙ ap length output, rw output at printed.buffer)

-- T10: the answers
pub refused_t10 : check_answer 4 1 ends_t4 (1 ∷ 1 ∷ []) ≡ Err (Conflict 0 1)
unfolding check_answer table_answer number_verdicts number_verdict pair_verdicts later_verdict pair_verdict conflicting first_ground call_verdict
    ring_verdict count_verdict list_verdict request_verdicts ends_verdict share_link some_link uses fate_of served
refused_t10 = refl

pub passes_t10 : check_answer 4 1 ends_t4 (1 ∷ 0 ∷ []) ≡ Ok 1
unfolding check_answer table_answer number_verdicts number_verdict pair_verdicts later_verdict pair_verdict conflicting first_ground call_verdict
    ring_verdict count_verdict list_verdict request_verdicts ends_verdict share_link some_link uses fate_of served
passes_t10 = refl

-- what the texts say
conflicting_read : check-reading.reading_of (bytes "4 1 2\n0 2\n1 3\n1\n1\n") ≡ check-reading.readable 4 1 ends_t4 (1 ∷ 1 ∷ [])
unfolding check-reading.reading_of check-reading.form_of heading line field
conflicting_read = refl

passing_read : check-reading.reading_of (bytes "4 1 2\n0 2\n1 3\n1\n0\n") ≡ check-reading.readable 4 1 ends_t4 (1 ∷ 0 ∷ [])
unfolding check-reading.reading_of check-reading.form_of heading line field
passing_read = refl

-- the lines
pub refusal_line_t10 : line_for (bytes "4 1 2\n0 2\n1 3\n1\n1\n") ≡ bytes "refused 8 0 1\n"
unfolding line_for refusal_line labelled decimal
refusal_line_t10 = rw (conflicting_read, refused_t10) refl

pub passing_line_t10 : line_for (bytes "4 1 2\n0 2\n1 3\n1\n0\n") ≡ bytes "served 1\n"
unfolding line_for served_line labelled decimal
passing_line_t10 = rw (passing_read, passes_t10) refl

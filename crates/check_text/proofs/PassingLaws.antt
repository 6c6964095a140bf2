-- A plan that plan gives passes the check.
use Prim.Native.Nat.{ℕ}
use mathlib.Core.Path.{◌≡◌, refl}
use native.Mathlib.Omega.{arith}
use native.Mathlib.Nat.{le_refl}
use lib.ListN.{length}
use lib.Seq.{take-take}
use Rattle.ring.specs.Refusals.{Verdict}
use Rattle.std.specs.Prelude.{Ok, Err}
use Rattle.ring.specs.Requests.{requests_of}
use Rattle.ring.specs.Plans.{served}
use Rattle.ring.specs.Admission.{call_verdict}
use Rattle.ring.proofs.AdmissionLaws.{call_limits, call_allowed}
use Rattle.ring.proofs.FateLaws.{fates_length}
use Rattle.planner.specs.Promise.{read_plan}
use Rattle.checker.specs.Check.{numbers_in, check_answer}
use Rattle.checker.proofs.DecisionLaws.{checker_decides}
use Rattle.check_text.specs.Passing.{PlansPass}

pub plans_pass : PlansPass
plans_pass n w ends before after counts s = by (call_verdict n w ends (length before)) refl
  where
    by : (v : Verdict) → call_verdict n w ends (length before) ≡ v
        → check_answer n w ends (numbers_in ends after) ≡ Ok (served (read_plan (requests_of ends) after))
    by (Err ground) q =
        let told = (s.refused ground q).0 in
        let z : ◌≡◌ {A = ℕ} 0 1 = cc in
        absurd (omega arith)
    by (Ok allowed) q =
        let limits = call_limits n w ends (length before) q in
        let feasible = (s.planned q).demand.feasible in
        let each = feasible.each in
        let entries = fates_length (numbers_in ends after) in
        let allowed = call_allowed n w ends (length (numbers_in ends after))
        (record { ring = limits.ring; list = limits.list; table = omega arith }) in
        let same : numbers_in ends (numbers_in ends after) ≡ numbers_in ends after =
        take-take (length (requests_of ends)) (length (requests_of ends)) after (le_refl _) in
        rw same at ((checker_decides n w ends (numbers_in ends after) allowed).feasible_passed (rw same feasible))

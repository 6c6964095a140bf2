-- The checker decides whether a table holds a feasible plan.
use Prim.Native.Nat.{ℕ, ◌*◌, ◌≤◌, ◌<◌}
use mathlib.Core.Path.{◌≡◌, sym, ◌∙◌}
use mathlib.Core.Bool.{true≢false}
use mathlib.Core.List.{List}
use native.Mathlib.Omega.{arith}
use lib.ListN.{length, get_or, length-take}
use Rattle.ring.specs.declared.ways.Way.{Way}
use Rattle.ring.specs.declared.requests.Request.{Request}
use Rattle.ring.specs.declared.fates.Fate.{Fate}
use Rattle.ring.specs.declared.fates.Fate.TheVariants.{Served}
use Rattle.ring.specs.Requests.{requests_of, request}
use Rattle.ring.specs.Ways.{uses, share_link}
use Rattle.ring.specs.Fates.{fate_of}
use Rattle.ring.specs.Plans.{fate, fates_of, Feasible}
use Rattle.ring.proofs.Cases.{yes, no, is, less, not_less, compare, impossible}
use Rattle.ring.proofs.FateLaws.{number_of_fate, number_blocked, served_within, within_served, fates_length, fate_at, fate_past}
use Rattle.ring.proofs.PlanLaws.{served?, served_yes, served_no}
use Rattle.ring.proofs.AdmissionLaws.{call_limits, says_allowed, says_refused, says}
use Rattle.checker.specs.Check.{number_verdicts, pair_verdicts, table_answer, numbers_in, check_answer}
use Rattle.checker.specs.Decision.{InConflict, Decided, CheckerDecides}
use Rattle.checker.proofs.FaultLaws.{numbers_within, within_numbers, number_fault, pairs_apart, apart_pairs, conflict_fault}

module _ (n w : ℕ) (R : List Request) (numbers : List ℕ) (each : length numbers ≡ length R) where
  F : List Fate
  F = fates_of numbers

  -- a request that is served is one of the list
  served_listed : (i c : ℕ) (u : Way) → fate F i ≡ Served u c → i < length numbers
  unfolding F
  served_listed i c u e = elim (compare i (length numbers)) [
    | less h t ↦ h
    | not_less h t ↦ impossible (cc (fate_past numbers i h))
  ]

  -- a plan without conflicts is feasible
  feasible : ((k : ℕ) → k < length numbers → get_or numbers k 0 ≤ 2 * w) → ((i j : ℕ) → InConflict n R F i j → ⊥) → Feasible n w R F
  unfolding F
  feasible within apart = record {
    each = omega (arith, fates_length numbers);
    colours = λ i c u e. within_served (get_or numbers i 0) w c u (sym (fate_at numbers i) ∙ e) (within i (served_listed i c u e));
    apart = λ i j c u v d e f link below h. elim (is (uses v (request R j) link)) [
      | no g ↦ g
      | yes g ↦ elim (compare i j) [
        | less l t ↦ absurd (apart i j (record {
          before = l;
          listed = omega (arith, served_listed j c v f);
          colour = c;
          first_way = u;
          second_way = v;
          first_served = e;
          second_served = f;
          link = link;
          below = below;
          first_uses = h;
          second_uses = g;
        }))
        | not_less l t ↦ absurd (apart j i (record {
          before = omega (arith, d);
          listed = omega (arith, served_listed i c u e);
          colour = c;
          first_way = v;
          second_way = u;
          first_served = f;
          second_served = e;
          link = link;
          below = below;
          first_uses = g;
          second_uses = h;
        }))
      ]
    ];
  }

  -- and a feasible plan has its numbers from 0 to 2w, and no conflict
  feasible_within : Feasible n w R F → (k : ℕ) → k < length numbers → get_or numbers k 0 ≤ 2 * w
  unfolding F
  feasible_within f k h = elim (is (served? (fate_of (get_or numbers k 0)))) [
    | yes e ↦
        let s = served_yes (fate_of (get_or numbers k 0)) e in
        served_within (get_or numbers k 0) w s.colour s.way s.is (f.colours k s.colour s.way (fate_at numbers k ∙ s.is))
    | no e ↦ omega (
      arith,
      number_blocked (fate_of (get_or numbers k 0)) (served_no (fate_of (get_or numbers k 0)) e),
      number_of_fate (get_or numbers k 0),
    )
  ]

  feasible_apart : Feasible n w R F → (i j : ℕ) → InConflict n R F i j → ⊥
  feasible_apart f i j x =
      true≢false (sym x.second_uses
      ∙ f.apart i j x.colour x.first_way x.second_way (λ e. omega (arith, x.before)) x.first_served x.second_served
      x.link x.below x.first_uses)

  -- so the answer to the numbers decides
  decided : Decided n w R numbers (table_answer (share_link n) w R numbers)
  unfolding table_answer F
  decided = elim (says (number_verdicts w numbers)) [
    | says_refused r e ↦ record {
      passed_feasible = λ k p. impossible (cc);
      passed_served = λ k p. impossible (cc);
      feasible_passed = λ f. impossible (cc (within_numbers w numbers (feasible_within f)));
      refused_fault = λ q p. number_fault w numbers n R q (cc);
    }
    | says_allowed e ↦ elim (says (pair_verdicts (share_link n) R (fates_of numbers))) [
      | says_refused r g ↦ record {
        passed_feasible = λ k p. impossible (cc);
        passed_served = λ k p. impossible (cc);
        feasible_passed = λ f. impossible (cc (apart_pairs n R (fates_of numbers) (feasible_apart f)));
        refused_fault = λ q p. conflict_fault n w R numbers e q (cc);
      }
      | says_allowed g ↦ record {
        passed_feasible = λ k p. feasible (numbers_within w numbers e) (pairs_apart n R (fates_of numbers) g);
        passed_served = λ k p. cc;
        feasible_passed = λ f. cc;
        refused_fault = λ q p. impossible (cc);
      }
    ]
  ]

-- for every call without the grounds 1 to 6
pub checker_decides : CheckerDecides
unfolding check_answer
checker_decides n w ends table allowed =
    let limits = call_limits n w ends (length table) allowed in
    let all : length (numbers_in ends table) ≡ length (requests_of ends) =
    omega (arith, length-take (length (requests_of ends)) table, limits.table) in
    rw allowed (decided n w (requests_of ends) (numbers_in ends table) all)

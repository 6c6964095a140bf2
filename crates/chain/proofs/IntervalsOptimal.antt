-- Picks that are allowed one after the other serve no more than the rule's, by counting the ends above each point. Assumes nothing.
use Prim.Native.Nat.{ℕ, ◌+◌, ◌≤◌, ◌<◌}
use mathlib.Core.Path.{◌≡◌, refl}
use mathlib.Core.Logic.{⊎_elim}
use mathlib.Core.List.{List}
use native.Mathlib.Omega.{arith}
use lib.ListN.{length, get_or, replicate, length-set}
use Rattle.std.proofs.lemmas.Bool.{cases_lt}
use Rattle.std.specs.Prelude.{Option, Some, None}
use Rattle.chain.specs.Rule.{pick, with_pick, BestFit, NoFit, BestPick}
use Rattle.chain.proofs.Picking.{pick_is_chosen}
use Rattle.chain.proofs.EndCounts.{above_one, above_zero, above_le, count_above, count_set, count_le, count_between, count_misses}
use Rattle.chain.proofs.EndCounts.{count_gap, count_all, count_zeros}
use Rattle.chain.proofs.Intervals.{Interval, Sorted, got, count, picks, Allowed, Replay, done, next}

pub length_after : (latest : List ℕ) (p : Option ℕ) (b : ℕ) → length (with_pick latest p b) ≡ length latest
length_after latest (Some c) b = length-set latest c b
length_after latest None b = refl

-- the rule, with ends `ours`, has served g; its rival, with ends `theirs`, has served o; no end of ours is above m
record Ahead (m : ℕ) (ours theirs : List ℕ) (g o : ℕ) : Type 0 where
  same : length ours ≡ length theirs
  fewer : o ≤ g
  ahead : (x : ℕ) → count_above ours x + o ≤ count_above theirs x + g
  past : (x : ℕ) → m ≤ x → count_above ours x ≡ 0

module _ (ours theirs : List ℕ) (m a b g o : ℕ) (mb : m ≤ b) (ab : a < b) (I : Ahead m ours theirs g o) where
  -- no end of ours lies from the picked one up to a
  no_gap : (c : ℕ) → BestFit ours a c → (x : ℕ) → get_or ours c 0 ≤ x → count_above ours x ≤ count_above ours a
  no_gap c h x l = count_gap ours x a (λ d i fits. omega (arith, h.greatest d i fits))

  all_above : NoFit ours a → length ours ≤ count_above ours a
  all_above h = count_all ours a h

  step_ahead : (q p : Option ℕ) → BestPick ours a q → Allowed theirs a p → (x : ℕ)
      → count_above (with_pick ours q b) x + (o + got p) ≤ count_above (with_pick theirs p b) x + (g + got q)
  step_ahead (Some c) (Some f) hq hp x =
      let e = get_or ours c 0 in
      let k = get_or theirs f 0 in
      let A = count_set ours c b x hq.inside in
      let B = count_set theirs f b x hp.0 in
      ⊎_elim
      (λ (below : x < k).
      ⊎_elim
      (λ (under : x < e). omega (arith, above_one e x under, above_one k x below, I.ahead x))
      (λ (on : e ≤ x). omega
      (arith, no_gap c hq x on, count_between theirs f x a hp.0 below hp.1, above_one k x below, above_zero e x on, I.ahead a))
      (cases_lt x e))
      (λ (over : k ≤ x). omega (arith, above_zero k x over, I.ahead x))
      (cases_lt x k)
  step_ahead (Some c) None hq hp x = omega (arith, count_set ours c b x hq.inside, above_le b x, I.ahead x)
  step_ahead None (Some f) hq hp x =
      let k = get_or theirs f 0 in
      let B = count_set theirs f b x hp.0 in
      let D = count_misses theirs f a hp.0 hp.1 in
      let all = all_above hq in
      ⊎_elim
      (λ (early : x < b).
      ⊎_elim
      (λ (below : x < k). omega
      (arith, count_between theirs f x a hp.0 below hp.1, above_one k x below, above_one b x early, I.ahead a, count_le ours x))
      (λ (over : k ≤ x). omega (arith, above_zero k x over, above_one b x early, I.ahead x))
      (cases_lt x k))
      (λ (late : b ≤ x). omega (arith, I.past x (omega arith), I.ahead a))
      (cases_lt x b)
  step_ahead None None hq hp x = omega (arith, I.ahead x)

  step_fewer : (q p : Option ℕ) → BestPick ours a q → Allowed theirs a p → o + got p ≤ g + got q
  step_fewer (Some c) (Some f) hq hp = omega arith
  step_fewer (Some c) None hq hp = omega arith
  step_fewer None (Some f) hq hp = omega (arith, all_above hq, count_misses theirs f a hp.0 hp.1, I.ahead a)
  step_fewer None None hq hp = omega arith

  step_past : (q : Option ℕ) → BestPick ours a q → (x : ℕ) → b ≤ x → count_above (with_pick ours q b) x ≡ 0
  step_past (Some c) hq x h = omega (arith, count_set ours c b x hq.inside, above_zero b x h, I.past x (omega arith))
  step_past None hq x h = I.past x (omega arith)

  step : (q p : Option ℕ) → BestPick ours a q → Allowed theirs a p → Ahead b (with_pick ours q b) (with_pick theirs p b) (g + got q) (o + got p)
  step q p hq hp =
      record {
        same = omega (arith, length_after ours q b, length_after theirs p b);
        fewer = step_fewer q p hq hp;
        ahead = step_ahead q p hq hp;
        past = step_past q hq;
      }

run : {X : List Interval} {P : List (Option ℕ)} {theirs : List ℕ} → Replay X P theirs → (ours : List ℕ) (m g o : ℕ) → Sorted m X
    → Ahead m ours theirs g o → o + count P ≤ g + count (picks X ours)
run done ours m g o so I = omega arith
run (next {v = v} {p = p} {latest = theirs} ok rest) ours m g o so I =
    let q = pick ours v.start in
    let ih = run rest (with_pick ours q v.finish) v.finish (g + got q) (o + got p) so.2
    (step ours theirs m v.start v.finish g o so.0 so.1 I q p (pick_is_chosen ours v.start) ok) in
    omega arith

-- no picks that are allowed one after the other serve more than the rule's
pub replay_most : (w : ℕ) (X : List Interval) (P : List (Option ℕ)) → Sorted 0 X → Replay X P (replicate w 0)
    → count P ≤ count (picks X (replicate w 0))
replay_most w X P so re =
    let start : Ahead 0 (replicate w 0) (replicate w 0) 0 0 =
    record { same = refl; fewer = omega arith; ahead = λ x. omega arith; past = λ x h. count_zeros w x } in
    let r = run re (replicate w 0) 0 0 0 so start in
    omega arith

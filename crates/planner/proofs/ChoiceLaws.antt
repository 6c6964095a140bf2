-- The choice between the two parts, and the promise of plan.
use Prim.Native.Nat.{ℕ, ◌+◌, ◌*◌, ◌-◌, ◌/◌, ◌≤◌, ◌<◌, min}
use mathlib.Core.Path.{◌≡◌, refl, sym, ap, ◌∙◌}
use mathlib.Core.Bool.{true, false}
use mathlib.Core.List.{List, ◌++◌, map}
use native.Mathlib.Omega.{arith}
use lib.ListN.{length, take, drop, length-map}
use lib.Seq.{take_at, drop_at, length_front, length-take-le}
use lib.Dec.{ltb}
use borrow.Author.Tests.{ltb-true, ltb-false}
use Rattle.ring.specs.declared.rings.Ring.{Ring}
use Rattle.std.specs.Prelude.{Ok, Err}
use Rattle.ring.specs.declared.refusals.Refusal.{Refusal}
use Rattle.ring.specs.Refusals.{Verdict}
use Rattle.ring.specs.declared.requests.Request.{Request}
use Rattle.ring.specs.Requests.{requests_of, ValidRequests}
use Rattle.ring.specs.Fates.{fate_number}
use Rattle.ring.specs.Plans.{served}
use Rattle.ring.specs.Matchings.{Pair, IsMaximum}
use Rattle.ring.specs.Admission.{ring_unless, call_verdict, call_answer}
use Rattle.ring.proofs.Cases.{impossible}
use Rattle.ring.proofs.PlanLaws.{served_le}
use Rattle.ring.proofs.AdmissionLaws.{CallLimits, made_allowed, call_limits}
use Rattle.chain.specs.ChainPart.{chain_part}
use Rattle.chain.specs.Promises.{Colourable, Coloured}
use Rattle.chain.proofs.ChainOptimal.{chain_is_optimal}
use Rattle.matching.specs.declared.matchings.Matching.{Matching}
use Rattle.matching.specs.Maximum.{pairs_of, MaximumMatching}
use Rattle.planner.specs.declared.answers.Part.{Part}
use Rattle.planner.specs.declared.answers.Summary.{Summary}
use Rattle.planner.specs.PairPart.{ByLower, pair_fates, coloured_pairs, pair_part, pair_count}
use Rattle.planner.specs.Plan.{better, part_used, plan_of, ceiling_of, summary}
use Rattle.planner.specs.Promise.{PlanPromise}
use Rattle.planner.specs.Internal.Writing.{Within, pair_table}
use Rattle.planner.specs.Internal.Filling.{filled_table}
use Rattle.planner.specs.Internal.Choosing.{Choosable, Chosen}
use Rattle.planner.proofs.MateLaws.{matching_size}
use Rattle.planner.proofs.PairLaws.{pair_fates_length}
use Rattle.planner.proofs.FillLaws.{pair_part_serves}
use Rattle.planner.proofs.SpareLaws.{pair_part_filled}
use Rattle.planner.proofs.PlanLaws.{plan_pair, plan_chain, demand}

-- the pair count, as it is computed
pub counted : (m w pairs requests filled : ℕ) → requests ≡ m → filled ≡ min (w - pairs) (requests - 2 * pairs)
    → 2 * pairs + filled ≡ pair_count m w pairs
counted m w pairs requests filled e f = cc

module _ {n w : ℕ} {ends mates table : List ℕ} {chain size : ℕ} (within : Within n w ends)
    (choosable : Choosable n w ends mates table chain size) where
  abbrev R : List Request
  R = requests_of ends

  abbrev P : List Pair
  P = pairs_of (length R) mates

  half : length ends / 2 ≡ length R
  half = omega (arith, within.even)

  -- there are two requests for each pair, and so few that every count fits
  pub few_pairs : (2 * size ≤ length ends / 2) × (length ends / 2 ≤ 512)
  few_pairs =
      let same = half in (
        omega (arith, choosable.matched, matching_size R P choosable.writable.matching),
        omega (arith, within.valid.few),
      )

  -- the chain count and w together fit
  pub few_served : chain + w < 65536
  few_served =
      let valid = within.valid in
      omega (
        arith,
        choosable.chain,
        served_le (chain_part n w R),
        (chain_is_optimal n w R valid).feasible.each,
        valid.few,
        within.colours,
      )

  pair_count_lem : (pairs paired : ℕ) → pairs ≡ min size w → paired ≡ pair_count (length ends / 2) w pairs → paired ≡ served (pair_part n w R P)
  pair_count_lem pairs paired e f =
      let same : pairs ≡ coloured_pairs w P = omega (arith, choosable.matched) in
      f ∙ (rw (half, same) refl ∙ sym (pair_part_serves n w R P choosable.writable.matching))

  -- the pair part serves more: the pairs are written, then the spare colours filled
  pub pair_chosen : (pairs paired : ℕ) (middle filled : List ℕ) → pairs ≡ min size w → paired ≡ pair_count (length ends / 2) w pairs
      → ltb chain paired ≡ true → middle ≡ pair_table n w R mates table → filled ≡ filled_table w (w - pairs) (take (length ends / 2) middle)
      → filled ++ drop (length ends / 2) middle ≡ map fate_number (plan_of n w R P) ++ drop (length R) table
  pair_chosen pairs paired middle filled e f h g k =
      let c = choosable.chain in
      let p = pair_count_lem pairs paired e f in
      let s = choosable.matched in
      let more : served (chain_part n w R) < served (pair_part n w R P) = omega (arith, ltb-true chain paired h) in
      let spare : w - pairs ≡ w - coloured_pairs w P = omega arith in
      let numbers = map fate_number (pair_fates n w R P) in
      let all : length numbers ≡ length ends / 2 = length-map (pair_fates n w R P) fate_number ∙ (pair_fates_length n w R P ∙ sym half) in
      rw (
        plan_pair n w R P more,
        k,
        g,
        take_at numbers (drop (length R) table) (length ends / 2) all,
        drop_at numbers (drop (length R) table) (length ends / 2) all,
      ) (rw (pair_part_filled n w R P (w - pairs) spare) refl)

  -- it does not, and the chain part stays
  pub chain_chosen : (pairs paired : ℕ) → pairs ≡ min size w → paired ≡ pair_count (length ends / 2) w pairs → ltb chain paired ≡ false
      → table ≡ map fate_number (plan_of n w R P) ++ drop (length R) table
  chain_chosen pairs paired e f h =
      let c = choosable.chain in
      let p = pair_count_lem pairs paired e f in
      let less : served (pair_part n w R P) ≤ served (chain_part n w R) = omega (arith, ltb-false chain paired h) in
      rw (plan_chain n w R P less) choosable.table

  -- line 2
  pub counts_chosen : (requests pairs paired top : ℕ) (used : Part) → requests ≡ length ends / 2 → pairs ≡ min size w
      → paired ≡ pair_count (length ends / 2) w pairs → used ≡ better (ltb chain paired) → top ≡ ceiling_of requests w chain size
      → record { chain = chain; matched = size; paired = paired; used = used; ceiling = top } ≡ summary n w R P
  unfolding summary part_used
  counts_chosen requests pairs paired top used r e f u t = cc (choosable.chain, choosable.matched, pair_count_lem pairs paired e f, half)

-- The first m entries after the chain part is written, and the others.

module _ (n w : ℕ) (R : List Request) (valid : ValidRequests n R) (before middle : List ℕ) (count : ℕ)
    (coloured : Coloured n w R before middle count) where
  rest_stays : drop (length R) middle ≡ drop (length R) before
  rest_stays =
      rw coloured.table
      (drop_at (map fate_number (chain_part n w R)) (drop (length R) before) (length R)
      (length-map (chain_part n w R) fate_number ∙ (chain_is_optimal n w R valid).feasible.each))

  coloured_length : length R ≤ length before → length middle ≡ length before
  coloured_length room =
      ap length coloured.table
      ∙ length_front before (map fate_number (chain_part n w R)) (length R)
      (length-map (chain_part n w R) fate_number
      ∙ ((chain_is_optimal n w R valid).feasible.each ∙ sym (length-take-le (length R) before room)))

  pub coloured_stays : middle ≡ map fate_number (chain_part n w R) ++ drop (length R) middle
  coloured_stays = rw rest_stays coloured.table

  pub chosen_from : (P : List Pair) (after : List ℕ) (counts : Summary) → Chosen n w R P middle after counts
      → Chosen n w R P before after counts
  chosen_from P after counts chosen = record { table = rw (← rest_stays) chosen.table; counts = chosen.counts }

-- what the choice asks, from what the chain part and the matching promise
pub choosable_if : (n w : ℕ) (ends before middle : List ℕ) (chain : ℕ) (found : Matching) → CallLimits n w ends (length before)
    → Coloured n w (requests_of ends) before middle chain → MaximumMatching (requests_of ends) found
    → Choosable n w ends found.mates middle chain found.size
choosable_if n w ends before middle chain found limits coloured maximum =
    let valid = limits.list.valid in
    record {
      writable = record {
        room = omega (arith, limits.table, coloured_length n w (requests_of ends) valid before middle chain coloured limits.table);
        matching = maximum.maximum.matching;
      };
      table = coloured_stays n w (requests_of ends) valid before middle chain coloured;
      chain = coloured.count;
      matched = maximum.size;
    }

-- what a call that is not turned down has
pub call_within : (n w : ℕ) (ends : List ℕ) (entries : ℕ) → CallLimits n w ends entries → Within n w ends
call_within n w ends entries limits =
    record { colours = limits.ring.colours_to; even = limits.list.even; valid = limits.list.valid }

-- a call that is not turned down is within the limits
pub made_fits : (n w : ℕ) (ends : List ℕ) (entries : ℕ) (r : Ring) → call_answer n w ends entries ≡ Ok r
    → CallLimits r.nodes r.colours ends entries
unfolding call_answer
made_fits n w ends entries r e =
    let made = made_allowed (call_verdict n w ends entries) n w r e in
    rw made.1 (call_limits n w ends entries made.0)

-- what colouring asks
pub colourable_if : (n w : ℕ) (ends table : List ℕ) → CallLimits n w ends (length table) → Colourable n w (requests_of ends) table
colourable_if n w ends table limits =
    record { nodes = limits.ring.nodes_to; colours = limits.ring.colours_to; valid = limits.list.valid; room = limits.table }

-- The promise of plan.

-- a ground is there
pub plan_refused : (n w : ℕ) (ends table : List ℕ) (ground : Refusal) → call_answer n w ends (length table) ≡ Err ground
    → PlanPromise n w ends table table (Err ground)
unfolding call_answer
plan_refused n w ends table ground e =
    let there = refused_verdict (call_verdict n w ends (length table)) e in
    record {
      refused = λ r f. (cc, refl);
      planned = λ f. impossible (cc);
    }
  where
    refused_verdict : (v : Verdict) → ring_unless v n w ≡ Err ground → v ≡ Err ground
    refused_verdict (Ok tt) q = impossible (cc)
    refused_verdict (Err r) q = cc

-- none is there
pub plan_made : (n w : ℕ) (ends before after : List ℕ) (r : Ring) → call_answer n w ends (length before) ≡ Ok r
    → (P : List Pair) → IsMaximum (requests_of ends) P → ByLower P → (counts : Summary)
    → Chosen r.nodes r.colours (requests_of ends) P before after counts
    → PlanPromise n w ends before after (Ok counts)
unfolding call_answer
plan_made n w ends before after r e P maximum lower counts chosen =
    let made = made_allowed (call_verdict n w ends (length before)) n w r e in
    let limits = call_limits n w ends (length before) made.0 in
    let valid = limits.list.valid in
    let R = requests_of ends in
    let ours : Chosen n w R P before after counts = rw made.1 at chosen in
    record {
      refused = λ ground f. impossible (cc);
      planned = λ f. record {
        pairs = P;
        maximum = maximum;
        by_lower = lower;
        counts = ap Ok ours.counts;
        table = ours.table;
        demand = rw ours.table (demand n w R valid (chain_is_optimal n w R valid) P maximum (drop (length R) before));
      };
    }

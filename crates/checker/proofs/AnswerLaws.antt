-- The answer to a check, ground by ground.
use Prim.Native.Nat.{ℕ, ◌*◌, ◌/◌, ◌≤◌}
use mathlib.Core.Path.{◌≡◌}
use mathlib.Core.List.{List}
use native.Mathlib.Omega.{arith}
use lib.ListN.{length, take, length-take}
use Rattle.ring.specs.declared.rings.Ring.{Ring}
use Rattle.ring.specs.declared.refusals.Refusal.{Refusal}
use Rattle.ring.specs.Refusals.{Verdict}
use Rattle.std.specs.Prelude.{Ok, Err}
use Rattle.ring.specs.Requests.{requests_of, ValidRequests}
use Rattle.ring.specs.Internal.Sharing.{sharing}
use Rattle.ring.specs.Plans.{fates_of}
use Rattle.ring.specs.Admission.{call_verdict, ring_unless, call_answer}
use Rattle.ring.proofs.Cases.{impossible}
use Rattle.ring.proofs.RequestLaws.{requests_length, valid_on_256}
use Rattle.ring.proofs.AdmissionLaws.{CallLimits, made_allowed, made_limits}
use Rattle.checker.specs.Check.{table_answer, numbers_in, check_answer}
use Rattle.checker.proofs.ConflictLaws.{pairs_means}

-- a refusal of the call
ring_refused : (v : Verdict) (n w : ℕ) (r : Refusal) → ring_unless v n w ≡ Err r → v ≡ Err r
ring_refused (Ok tt) n w r e = impossible (cc)
ring_refused (Err q) n w r e = cc

module _ (n w : ℕ) (ends table : List ℕ) where
  pub call_refused : (r : Refusal) → call_answer n w ends (length table) ≡ Err r → Err r ≡ check_answer n w ends table
  unfolding call_answer check_answer
  call_refused r e = cc (ring_refused (call_verdict n w ends (length table)) n w r e)

  -- a call that is let through has m numbers
  module _ (ring : Ring) (made : call_answer n w ends (length table) ≡ Ok ring) where
    limits : CallLimits n w ends (length table)
    limits = made_limits n w ends (length table) ring made

    pub numbers_length : length (take (length ends / 2) table) ≡ length ends / 2
    numbers_length = omega (arith, length-take (length ends / 2) table, limits.table, requests_length ends)

    pub few_colours : w ≤ 128
    few_colours = limits.ring.colours_to

    pub numbers_valid : ValidRequests 256 (requests_of ends)
    numbers_valid = valid_on_256 n (requests_of ends) limits.ring.nodes_to limits.list.valid

    pub numbers_each : length ends ≡ 2 * length (take (length ends / 2) table)
    numbers_each = omega (arith, numbers_length, limits.list.even, requests_length ends)

    pub numbers_few : length (take (length ends / 2) table) ≤ 512
    numbers_few = omega (arith, numbers_length, limits.list.valid.few, requests_length ends)

    -- and gets their answer
    pub call_made : table_answer sharing w (requests_of ends) (take (length ends / 2) table) ≡ check_answer n w ends table
    unfolding call_answer check_answer table_answer
    call_made = cc (
      requests_length ends,
      pairs_means n (requests_of ends) (fates_of (numbers_in ends table)) limits.list.valid,
      (made_allowed (call_verdict n w ends (length table)) n w ring made).0,
    )

-- The two ways in which a search ends: it has enlarged the matching, or its queue is scanned.
use Prim.Native.Nat.{ℕ, ◌≤◌}
use mathlib.Core.Path.{◌≡◌, sym}
use mathlib.Core.Bool.{Bool, true, false}
use mathlib.Core.List.{List}
use native.Mathlib.Omega.{arith}
use Rattle.ring.specs.declared.requests.Request.{Request}
use Rattle.ring.proofs.Cases.{impossible}
use Rattle.matching.specs.declared.matchings.Search.{Search}
use Rattle.matching.specs.Internal.Search.{SearchAt, SearchOutcome}

module _ {R : List Request} {r : ℕ} {s : Search} {rows : List (List ℕ)} where
  -- it does not go on, whatever was to follow
  pub outcome_enlarged : {done : Bool} {Going After : Type 0} → SearchOutcome R r s rows done Going → done ≡ true
      → SearchOutcome R r s rows true After
  outcome_enlarged O e = record { square = O.square; enlarged = λ u. O.enlarged e; going = λ f. impossible f }

  pub outcome_scanned : {h : ℕ} → SearchAt R r s rows h → s.clock ≤ h → SearchOutcome R r s rows false (SearchAt R r s rows s.clock)
  outcome_scanned {h} at over =
      let whole : h ≡ s.clock = omega (arith, at.within) in
      record { square = at.standing.square; enlarged = λ e. impossible (sym e); going = λ e. rw whole at at }

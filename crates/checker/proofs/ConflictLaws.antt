-- Conflicts of two requests, by their fates and ways.
use Prim.Native.Nat.{ℕ, ◌+◌, ◌-◌, ◌<◌}
use mathlib.Core.Path.{◌≡◌, refl, sym, ap}
use mathlib.Core.Bool.{Bool, true, false, ◌&&◌}
use mathlib.Core.List.{List}
use native.Mathlib.Omega.{arith}
use lib.Dec.{eqb}
use lib.ListN.{length, get_or}
use borrow.Author.Tests.{eqb-true, eq-eqb, ne_eqb}
use Rattle.ring.specs.declared.ways.Way.{Way}
use Rattle.ring.specs.declared.requests.Request.{Request}
use Rattle.ring.specs.declared.fates.Fate.{Fate}
use Rattle.ring.specs.declared.fates.Fate.TheVariants.{Blocked, Served}
use Rattle.ring.specs.declared.refusals.Refusal.TheVariants.{Conflict}
use Rattle.std.specs.Prelude.{Ok, Err}
use Rattle.ring.specs.Requests.{requests_of, request, ValidRequests}
use Rattle.ring.specs.Ways.{share_link}
use Rattle.ring.specs.Internal.Sharing.{sharing}
use Rattle.ring.specs.Fates.{fate_of}
use Rattle.ring.specs.Plans.{fate, fates_of}
use Rattle.ring.specs.Refusals.{refuse_if}
use Rattle.ring.proofs.Cases.{yes, no, is, impossible}
use Rattle.ring.proofs.WayLaws.{sharing_means}
use Rattle.ring.proofs.FateLaws.{fate_at}
use Rattle.checker.specs.Check.{SharingTest, conflicting, pair_verdict, later_verdict, pair_verdicts}
use Rattle.checker.proofs.GroundLaws.{first_same, none_first}

-- two fates of one colour, and ways that share
pub record Clash (share : SharingTest) (f : Fate) (r : Request) (g : Fate) (s : Request) : Type 0 where
  pub colour : ℕ
  pub first_way : Way
  pub second_way : Way
  pub first : f ≡ Served first_way colour
  pub second : g ≡ Served second_way colour
  pub shares : share first_way r second_way s ≡ true

-- two requests are in conflict exactly if both are served, in one colour, by ways that share
pub conflict_clash : (share : SharingTest) (f : Fate) (r : Request) (g : Fate) (s : Request)
    → conflicting share f r g s ≡ true → Clash share f r g s
unfolding conflicting
conflict_clash share Blocked r g s e = impossible (sym e)
conflict_clash share (Served u c) r Blocked s e = impossible (sym e)
conflict_clash share (Served u c) r (Served v d) s e = elim (is (eqb c d)) [
  | yes t ↦
      let same = eqb-true c d t in
      record { colour = c; first_way = u; second_way = v; first = refl; second = cc; shares = cc }
  | no t ↦ impossible (cc)
]

pub one_colour : (share : SharingTest) (u v : Way) (c : ℕ) (r s : Request) → conflicting share (Served u c) r (Served v c) s ≡ share u r v s
unfolding conflicting
one_colour share u v c r s = cc (eq-eqb c c refl)

-- the test by comparing ends finds the same conflicts as the test link by link
module _ (n : ℕ) (R : List Request) (F : List Fate) (valid : ValidRequests n R) where
  conflicting_means : (f : Fate) (i : ℕ) (g : Fate) (j : ℕ) → i < length R → j < length R
      → conflicting sharing f (request R i) g (request R j) ≡ conflicting (share_link n) f (request R i) g (request R j)
  unfolding conflicting
  conflicting_means Blocked i g j h k = refl
  conflicting_means (Served u c) i Blocked j h k = refl
  conflicting_means (Served u c) i (Served v d) j h k =
      ap (λ (b : Bool). eqb c d && b)
      (sharing_means n u (request R i) v (request R j) (valid.ordered i h) (valid.nodes i h) (valid.ordered j k) (valid.nodes j k))

  pair_means : (i j : ℕ) → i < length R → j < length R → pair_verdict sharing R F i j ≡ pair_verdict (share_link n) R F i j
  unfolding pair_verdict
  pair_means i j h k = ap (λ (b : Bool). refuse_if b (Conflict i j)) (conflicting_means (fate F i) i (fate F j) j h k)

  later_means : (i : ℕ) → i < length R → later_verdict sharing R F i ≡ later_verdict (share_link n) R F i
  unfolding later_verdict
  later_means i h =
      first_same (pair_verdict sharing R F i) (pair_verdict (share_link n) R F i) (i + 1) (length R - (i + 1))
      (λ k l u. pair_means i k h (omega arith))

  pub pairs_means : pair_verdicts sharing R F ≡ pair_verdicts (share_link n) R F
  unfolding pair_verdicts
  pairs_means = first_same (later_verdict sharing R F) (later_verdict (share_link n) R F) 0 (length R) (λ k l u. later_means k (omega arith))

-- 8 of request i, which is blocked or served, by its number
module _ (share : SharingTest) (ends numbers : List ℕ) (i : ℕ) where
  pub later_blocked : fate_of (get_or numbers i 0) ≡ Blocked → (Ok tt) ≡ later_verdict share (requests_of ends) (fates_of numbers) i
  unfolding later_verdict pair_verdict conflicting
  later_blocked e =
      sym (none_first (pair_verdict share (requests_of ends) (fates_of numbers) i) (i + 1) (length (requests_of ends) - (i + 1))
      (λ k l u. cc (fate_at numbers i)))

  module _ (way : Way) (colour : ℕ) (r : Request) (is-served : fate_of (get_or numbers i 0) ≡ Served way colour)
      (is-request : r ≡ request (requests_of ends) i) (j : ℕ)
      (t : Bool) (tested : t ≡ conflicting share (Served way colour) r (fate_of (get_or numbers j 0)) (request (requests_of ends) j)) where
    test_is : conflicting share (fate (fates_of numbers) i) (request (requests_of ends) i) (fate (fates_of numbers) j)
        (request (requests_of ends) j) ≡ t
    test_is = cc (fate_at numbers i, fate_at numbers j)

    pub pair_refused : t ≡ true → pair_verdict share (requests_of ends) (fates_of numbers) i j ≡ Err (Conflict i j)
    unfolding pair_verdict
    pair_refused e = cc (test_is)

    pub pair_allowed : t ≡ false → pair_verdict share (requests_of ends) (fates_of numbers) i j ≡ (Ok tt)
    unfolding pair_verdict
    pair_allowed e = cc (test_is)

-- a served request, and the fate of another: blocked, of another colour, or of the same
module _ (share : SharingTest) (way : Way) (colour : ℕ) (r : Request) (g : Fate) (s : Request) where
  pub blocked_apart : g ≡ Blocked → false ≡ conflicting share (Served way colour) r g s
  unfolding conflicting
  blocked_apart e = cc

  pub colours_apart : (v : Way) (d : ℕ) → g ≡ Served v d → (colour ≡ d → ⊥) → false ≡ conflicting share (Served way colour) r g s
  unfolding conflicting
  colours_apart v d e h = cc (ne_eqb colour d h)

  pub colours_same : (v : Way) (d : ℕ) → g ≡ Served v d → colour ≡ d → share way r v s ≡ conflicting share (Served way colour) r g s
  unfolding conflicting
  colours_same v d e h = cc (eq-eqb colour d h)

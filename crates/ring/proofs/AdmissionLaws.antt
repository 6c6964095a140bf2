-- What an admitted call has, and the walk over its list of ends.
use Prim.Native.Nat.{ℕ, zero, suc, ◌+◌, ◌*◌, ◌/◌, ◌%◌, ◌≤◌, ◌<◌, min, max}
use mathlib.Core.Path.{◌≡◌, refl}
use mathlib.Core.Bool.{Bool, true, false, ◌||◌}
use mathlib.Core.Logic.{◌⊎◌, inl, inr}
use mathlib.Core.List.{List, [], ◌∷◌}
use native.Mathlib.Omega.{arith}
use lib.Dec.{eqb, leb, ltb}
use lib.ListN.{length, get_or, drop, drop_of_length-le}
use borrow.Author.Tests.{eqb-false, ne_eqb, leb-false, lt-leb, ltb-false, le-ltb}
use Rattle.ring.specs.declared.rings.Ring.{Ring}
use Rattle.std.specs.Prelude.{Ok, Err}
use Rattle.ring.specs.declared.refusals.Refusal.{Refusal}
use Rattle.ring.specs.declared.refusals.Refusal.TheVariants.{NodeCount, ColourCount, RequestCount, RequestEnd, RequestEndsEqual}
use Rattle.ring.specs.declared.refusals.Refusal.TheVariants.{TableShort}
use Rattle.ring.specs.Refusals.{Verdict}
use Rattle.ring.specs.Requests.{requests_of, request, ValidRequests}
use Rattle.ring.specs.Refusals.{refuse_if, or_else}
use Rattle.ring.specs.Admission.{ring_verdict, ends_verdict, request_verdict, request_verdicts, count_verdict, list_verdict, call_verdict}
use Rattle.ring.specs.Admission.{ring_unless, call_answer}
use Rattle.ring.proofs.Cases.{impossible}
use Rattle.ring.proofs.RequestLaws.{requests_length, drop_two}

-- a turn of the walk over the ends: request i, then those from i + 1 on
pub verdicts_turn : (n i : ℕ) (l : List ℕ) → 2 * i + 1 < length l
    → request_verdicts n i (drop (2 * i) l)
    ≡ or_else (request_verdict n i (get_or l (2 * i) 0) (get_or l (2 * i + 1) 0)) (request_verdicts n (i + 1) (drop (2 * (i + 1)) l))
unfolding request_verdicts
verdicts_turn n i l h = rw (drop_two l i h)

-- its end
pub verdicts_ended : (n i : ℕ) (l : List ℕ) → length l ≤ 2 * i → request_verdicts n i (drop (2 * i) l) ≡ Ok tt
unfolding request_verdicts
verdicts_ended n i l h = rw (drop_of_length-le l h)

-- so many ends are those of at most 512 requests
pub record CountLimits (ends : ℕ) : Type 0 where
  pub few : ends ≤ 1024
  pub even : ends % 2 ≡ 0

-- one ground is not there, exactly if its test fails
pub refuse_allowed : (t : Bool) (r : Refusal) → refuse_if t r ≡ Ok tt → t ≡ false
refuse_allowed true r e = cc
refuse_allowed false r e = refl

pub neither_refused : (p q : Bool) (r : Refusal) → refuse_if (p || q) r ≡ Ok tt → (p ≡ false) × (q ≡ false)
neither_refused true q r e = impossible (refuse_allowed true r e)
neither_refused false q r e = (refl, refuse_allowed q r e)

pub allowed_refuse : (t : Bool) (r : Refusal) → t ≡ false → refuse_if t r ≡ Ok tt
allowed_refuse t r e = cc

-- a refusal of one ground is its own, and its test holds
pub refuse_refused : (t : Bool) (g r : Refusal) → refuse_if t g ≡ Err r → (t ≡ true) × (r ≡ g)
refuse_refused true g r e = (refl, cc)
refuse_refused false g r e = (impossible (cc), impossible (cc))

-- a verdict allows, or it refuses
pub data Says (v : Verdict) : Type 0 where
  says_allowed : v ≡ Ok tt → Says v
  says_refused : (r : Refusal) → v ≡ Err r → Says v

pub says : (v : Verdict) → Says v
says (Ok tt) = says_allowed refl
says (Err r) = says_refused r refl

-- of two grounds, the refusal is that of the first, or that of the second where the first allows
pub either_refused : (v w : Verdict) (r : Refusal) → or_else v w ≡ Err r → (v ≡ Err r) ⊎ (w ≡ Err r)
either_refused (Ok tt) w r e = inr e
either_refused (Err q) w r e = inl e

-- two grounds are not there, exactly if neither is
pub both_allowed : (v w : Verdict) → or_else v w ≡ Ok tt → (v ≡ Ok tt) × (w ≡ Ok tt)
both_allowed (Ok tt) w e = (refl, e)
both_allowed (Err r) w e = (e, impossible (cc))

pub allowed_both : (v w : Verdict) → v ≡ Ok tt → w ≡ Ok tt → or_else v w ≡ Ok tt
allowed_both v w e f = cc

-- "n from 3 to 256", "w from 1 to 128"
pub record RingLimits (n w : ℕ) : Type 0 where
  pub nodes_from : 3 ≤ n
  pub nodes_to : n ≤ 256
  pub colours_from : 1 ≤ w
  pub colours_to : w ≤ 128

pub ring_limits : (n w : ℕ) → ring_verdict n w ≡ Ok tt → RingLimits n w
unfolding ring_verdict
ring_limits n w e =
    let both = both_allowed (refuse_if (ltb n 3 || ltb 256 n) NodeCount) (refuse_if (ltb w 1 || ltb 128 w) ColourCount) e in
    let nodes = neither_refused (ltb n 3) (ltb 256 n) NodeCount both.0 in
    let colours = neither_refused (ltb w 1) (ltb 128 w) ColourCount both.1 in
    record {
      nodes_from = ltb-false n 3 nodes.0;
      nodes_to = ltb-false 256 n nodes.1;
      colours_from = ltb-false w 1 colours.0;
      colours_to = ltb-false 128 w colours.1;
    }

pub ring_allowed : (n w : ℕ) → RingLimits n w → ring_verdict n w ≡ Ok tt
unfolding ring_verdict
ring_allowed n w l = cc (le-ltb n 3 l.nodes_from, le-ltb 256 n l.nodes_to, le-ltb w 1 l.colours_from, le-ltb 128 w l.colours_to)

-- two ends that are different nodes of the n
pub ends_limits : (n x y : ℕ) (outside equal : Refusal) → ends_verdict n x y outside equal ≡ Ok tt → (min x y < max x y) × (max x y < n)
unfolding ends_verdict
ends_limits n x y outside equal e =
    let both = both_allowed (refuse_if (leb n x || leb n y) outside) (refuse_if (eqb x y) equal) e in
    let nodes = neither_refused (leb n x) (leb n y) outside both.0 in
    let first = leb-false n x nodes.0 in
    let second = leb-false n y nodes.1 in
    let apart = eqb-false x y (refuse_allowed (eqb x y) equal both.1) in
    (omega (arith, apart), omega arith)

pub ends_allowed : (n x y : ℕ) (outside equal : Refusal) → min x y < max x y → max x y < n → ends_verdict n x y outside equal ≡ Ok tt
unfolding ends_verdict
ends_allowed n x y outside equal h k = cc (lt-leb n x (omega arith), lt-leb n y (omega arith), ne_eqb x y (omega arith))

-- and so has every request of the list
pub verdicts_limits : (n i : ℕ) (ends : List ℕ) → request_verdicts n i ends ≡ Ok tt
    → (j : ℕ) → j < length (requests_of ends)
    → ((request (requests_of ends) j).a < (request (requests_of ends) j).b) × ((request (requests_of ends) j).b < n)
unfolding request_verdicts
verdicts_limits n i [] e j h = absurd (omega arith)
verdicts_limits n i (x ∷ []) e j h = absurd (omega arith)
verdicts_limits n i (x ∷ y ∷ ends) e zero h =
    ends_limits n x y (RequestEnd i) (RequestEndsEqual i) (both_allowed (request_verdict n i x y) (request_verdicts n (i + 1) ends) e).0
verdicts_limits n i (x ∷ y ∷ ends) e (suc j) h =
    verdicts_limits n (i + 1) ends (both_allowed (request_verdict n i x y) (request_verdicts n (i + 1) ends) e).1 j (omega arith)

pub verdicts_allowed : (n i : ℕ) (ends : List ℕ)
    → ((j : ℕ) → j < length (requests_of ends)
    → ((request (requests_of ends) j).a < (request (requests_of ends) j).b) × ((request (requests_of ends) j).b < n))
    → request_verdicts n i ends ≡ Ok tt
unfolding request_verdicts
verdicts_allowed n i [] h = refl
verdicts_allowed n i (x ∷ []) h = refl
verdicts_allowed n i (x ∷ y ∷ ends) h =
    let first = h 0 (omega arith) in
    cc (
      ends_allowed n x y (RequestEnd i) (RequestEndsEqual i) first.0 first.1,
      verdicts_allowed n (i + 1) ends (λ j l. h (suc j) (omega arith)),
    )

-- a list of pairs of ends, of at most 512 requests on n nodes
pub record ListLimits (n : ℕ) (ends : List ℕ) : Type 0 where
  pub even : length ends ≡ 2 * length (requests_of ends)
  pub valid : ValidRequests n (requests_of ends)

pub count_limits : (ends : ℕ) → count_verdict ends ≡ Ok tt → CountLimits ends
unfolding count_verdict
count_limits ends e =
    let neither = neither_refused (ltb 1024 ends) (eqb (ends % 2) 1) RequestCount e in
    record { few = ltb-false 1024 ends neither.0; even = omega (arith, eqb-false (ends % 2) 1 neither.1) }

pub count_allowed : (ends : ℕ) → CountLimits ends → count_verdict ends ≡ Ok tt
unfolding count_verdict
count_allowed ends l = cc (le-ltb 1024 ends l.few, ne_eqb (ends % 2) 1 (omega arith))

pub list_limits : (n : ℕ) (ends : List ℕ) → list_verdict n ends ≡ Ok tt → ListLimits n ends
unfolding list_verdict
list_limits n ends e =
    let both = both_allowed (count_verdict (length ends)) (request_verdicts n 0 ends) e in
    let count = count_limits (length ends) both.0 in
    let limits = verdicts_limits n 0 ends both.1 in
    record {
      even = omega (arith, requests_length ends);
      valid = record {
        few = omega (arith, requests_length ends);
        ordered = λ i h. (limits i h).0;
        nodes = λ i h. (limits i h).1;
      };
    }

pub list_allowed : (n : ℕ) (ends : List ℕ) → ListLimits n ends → list_verdict n ends ≡ Ok tt
unfolding list_verdict
list_allowed n ends l = cc (
  count_allowed (length ends) (record { few = omega (arith, l.even, l.valid.few); even = omega (arith, l.even) }),
  verdicts_allowed n 0 ends (λ j h. (l.valid.ordered j h, l.valid.nodes j h)),
)

-- "Ring, list and w are within the limits", and the table has an entry for each request
pub record CallLimits (n w : ℕ) (ends : List ℕ) (entries : ℕ) : Type 0 where
  pub ring : RingLimits n w
  pub list : ListLimits n ends
  pub table : length (requests_of ends) ≤ entries

pub call_limits : (n w : ℕ) (ends : List ℕ) (entries : ℕ) → call_verdict n w ends entries ≡ Ok tt → CallLimits n w ends entries
unfolding call_verdict
call_limits n w ends entries e =
    let short = refuse_if (ltb entries (length ends / 2)) TableShort in
    let both = both_allowed (ring_verdict n w) (or_else (list_verdict n ends) short) e in
    let later = both_allowed (list_verdict n ends) short both.1 in
    let room = ltb-false entries (length ends / 2) (refuse_allowed (ltb entries (length ends / 2)) TableShort later.1) in
    record { ring = ring_limits n w both.0; list = list_limits n ends later.0; table = omega (arith, requests_length ends) }

pub call_allowed : (n w : ℕ) (ends : List ℕ) (entries : ℕ) → CallLimits n w ends entries → call_verdict n w ends entries ≡ Ok tt
unfolding call_verdict
call_allowed n w ends entries l = cc (
  ring_allowed n w l.ring,
  list_allowed n ends l.list,
  le-ltb entries (length ends / 2) (omega (arith, requests_length ends, l.table)),
)

-- a ring is given exactly if no ground is there, and it is that of n and w
pub made_allowed : (v : Verdict) (n w : ℕ) (ring : Ring) → ring_unless v n w ≡ Ok ring
    → (v ≡ Ok tt) × (ring ≡ record { nodes = n; colours = w })
made_allowed (Ok tt) n w ring e = (refl, cc)
made_allowed (Err r) n w ring e = (impossible (cc), impossible (cc))

pub made_limits : (n w : ℕ) (ends : List ℕ) (entries : ℕ) (ring : Ring) → call_answer n w ends entries ≡ Ok ring
    → CallLimits n w ends entries
unfolding call_answer
made_limits n w ends entries ring e = call_limits n w ends entries (made_allowed (call_verdict n w ends entries) n w ring e).0

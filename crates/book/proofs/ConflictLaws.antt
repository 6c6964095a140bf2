-- The test for ground 11 by the ends of the records is the sentence: the colour is held on a link of the way.
use Prim.Native.Nat.{ℕ, ◌<◌}
use mathlib.Core.Path.{◌≡◌, sym, ◌∙◌}
use mathlib.Core.Bool.{Bool, true, false, ◌&&◌, true≢false}
use mathlib.Core.List.{List}
use lib.Dec.{eqb}
use lib.ListN.{length}
use Rattle.ring.specs.declared.requests.Request.{Request}
use Rattle.ring.specs.declared.ways.Way.{Way}
use Rattle.ring.specs.Ways.{uses, some_link, share_link}
use Rattle.ring.specs.Internal.Sharing.{sharing}
use Rattle.ring.proofs.Cases.{and_true}
use Rattle.ring.proofs.WayLaws.{same_test, Found, some_found, found_some, Shared, share_found, found_share, sharing_means}
use Rattle.book.specs.declared.circuits.Circuit.{Circuit}
use Rattle.book.specs.Circuits.{circuit, ends_of, holds}
use Rattle.book.specs.Books.{records_of}
use Rattle.book.specs.Grants.{held_in, held_on_way, colour_held}
use Rattle.book.specs.Internal.Conflicts.{conflicts, conflict_in, ConflictMeans}
use Rattle.book.proofs.CircuitLists.{Place, some_place, place_some}

pub true_and : (p q : Bool) → p ≡ true → q ≡ true → (p && q) ≡ true
true_and true q e h = h
true_and false q e h = absurd (true≢false (sym e))

-- a circuit that holds the colour on the link makes it held
pub holds_held : (cs : List Circuit) (link colour i : ℕ) → i < length cs → holds (circuit cs i) link colour ≡ true
    → held_in cs link colour ≡ true
unfolding held_in
holds_held cs link colour i h e = place_some cs (λ c. holds c link colour) i h e

-- circuits on n nodes, one of which shares a link with a way: it holds its colour on that link
module _ (n : ℕ) (cs : List Circuit) (ends : (i : ℕ) → i < length cs → ((circuit cs i).a < (circuit cs i).b) × ((circuit cs i).b < n))
    (way : Way) (r : Request) (colour : ℕ) (h₁ : r.a < r.b) (h₂ : r.b < n) where
  same_share : (i : ℕ) → i < length cs
      → sharing way r (circuit cs i).way (ends_of (circuit cs i)) ≡ share_link n way r (circuit cs i).way (ends_of (circuit cs i))
  same_share i h = sharing_means n way r (circuit cs i).way (ends_of (circuit cs i)) h₁ h₂ (ends i h).0 (ends i h).1

  to : conflict_in cs way r colour ≡ true → some_link n (λ link. uses way r link && held_in cs link colour) ≡ true
  unfolding conflict_in conflicts holds
  to e =
      let p : Place cs (λ c. conflicts c way r colour) = some_place cs (λ c. conflicts c way r colour) e in
      let i = p.place in
      let q = and_true (eqb (circuit cs i).colour colour) (sharing way r (circuit cs i).way (ends_of (circuit cs i))) p.has in
      let s : Shared n way r (circuit cs i).way (ends_of (circuit cs i)) =
      share_found n way r (circuit cs i).way (ends_of (circuit cs i)) (sym (same_share i p.below) ∙ q.1) in
      let g : held_in cs s.link colour ≡ true =
      holds_held cs s.link colour i p.below
      (true_and (eqb (circuit cs i).colour colour) (uses (circuit cs i).way (ends_of (circuit cs i)) s.link) q.0 s.second) in
      found_some n (λ link. uses way r link && held_in cs link colour) s.link s.below
      (true_and (uses way r s.link) (held_in cs s.link colour) s.first g)

  from : some_link n (λ link. uses way r link && held_in cs link colour) ≡ true → conflict_in cs way r colour ≡ true
  unfolding conflict_in conflicts held_in holds
  from e =
      let f : Found n (λ link. uses way r link && held_in cs link colour) =
      some_found n (λ link. uses way r link && held_in cs link colour) e in
      let q = and_true (uses way r f.link) (held_in cs f.link colour) f.holds in
      let p : Place cs (λ c. holds c f.link colour) = some_place cs (λ c. holds c f.link colour) q.1 in
      let i = p.place in
      let s = and_true (eqb (circuit cs i).colour colour) (uses (circuit cs i).way (ends_of (circuit cs i)) f.link) p.has in
      let g : share_link n way r (circuit cs i).way (ends_of (circuit cs i)) ≡ true =
      found_share n way r (circuit cs i).way (ends_of (circuit cs i)) f.link f.below q.0 s.1 in
      place_some cs (λ c. conflicts c way r colour) i p.below
      (true_and (eqb (circuit cs i).colour colour) (sharing way r (circuit cs i).way (ends_of (circuit cs i))) s.0
      (same_share i p.below ∙ g))

  pub conflict_held : conflict_in cs way r colour ≡ held_on_way n cs way r colour
  unfolding held_on_way
  conflict_held = same_test (conflict_in cs way r colour) (some_link n (λ link. uses way r link && held_in cs link colour)) to from

pub conflict_means : ConflictMeans
unfolding colour_held
conflict_means b v way r colour h₁ h₂ = conflict_held b.n (records_of b) v.circuits.ends way r colour h₁ h₂

-- The steps of a search: what holds before one, and what after it. M are the mates and r is the root; `label` and `base` are those of the
-- vertices that earlier searches froze.
use Prim.Native.Nat.{ℕ, suc, ◌<◌}
use mathlib.Core.Path.{◌≡◌}
use mathlib.Core.Bool.{Bool, true, false, cond, ◌||◌}
use native.Mathlib.Omega.{arith}
use lib.Dec.{eqb}
use borrow.Author.Tests.{eqb-false}
use Rattle.ring.proofs.Cases.{yes, no, is, same, different, eqb_refl, test}
use Rattle.blossom.specs.Internal.Labels.{Label, Free, Even}
use Rattle.blossom.specs.Internal.Rows.{Symmetric}
use Rattle.blossom.specs.Internal.Searches.{PartlyScanned, Searching, Scanning}
use Rattle.blossom.specs.Internal.State.{State, below}
use Rattle.blossom.proofs.Blossom.{shrinks}
use Rattle.blossom.proofs.Shrunk.{shrunk, NewOrders}
use Rattle.blossom.proofs.Cycle.{cycle, Walk, closes, joins}
use Rattle.blossom.proofs.Grow.{grown, grows}
use Rattle.blossom.proofs.LabelLaws.{is_free, is_even, is_odd, is_frozen, label_case}
use Rattle.blossom.proofs.Scan.{scanned_extends, partly_scanned_extends, scan_whole, grown_extends, shrunk_extends}

pub scan_next : (adj : ℕ → ℕ → Bool) (s : State) (done : ℕ → Bool) (x n : ℕ) → PartlyScanned adj s done x n
    → (s.label n ≡ Free → adj x n ≡ false) → (done n ≡ true → adj x n ≡ true → s.base x ≡ s.base n) → PartlyScanned adj s done x (suc n)
scan_next adj s done x n C f b = record {
  x_even = C.x_even;
  x_free = λ y l e. elim (test y n) [ same i j ↦ cc (f (cc)) | different i ↦ C.x_free y (omega (arith, eqb-false y n i.left)) e ];
  x_base = λ y l d a.
      elim (test y n) [ same i j ↦ cc (b (cc) (cc)) | different i ↦ C.x_base y (omega (arith, eqb-false y n i.left)) d a ];
}

-- a scan begins
pub scan_begin : (adj : ℕ → ℕ → Bool) (M : ℕ → ℕ) (label : ℕ → Label) (base : ℕ → ℕ) (r : ℕ) (s : State) (done : ℕ → Bool)
    → Searching adj M label base r s done → (x : ℕ) → s.label x ≡ Even → Scanning adj M label base r s done x 0
scan_begin adj M label base r s done S x e = record {
  search = S;
  partly = record { x_even = e; x_free = λ y l. absurd (omega arith); x_base = λ y l. absurd (omega arith) };
}

-- the tree grows from the even x by n, which is free, and its mate
pub search_grow : (adj : ℕ → ℕ → Bool) → Symmetric adj
    → (M : ℕ → ℕ) (label : ℕ → Label) (base : ℕ → ℕ) (r : ℕ) (s : State) (done : ℕ → Bool)
    → Searching adj M label base r s done → (x n : ℕ) → s.label x ≡ Even → s.label n ≡ Free → eqb (M n) n ≡ false → adj x n ≡ true
    → Searching adj M label base r (grown M s x n (M n)) done
search_grow adj symmetric M label base r s done S x n ex e d a =
    let I = S.invariant in let after : State = grown M s x n (M n) in
    let L = grown_extends adj symmetric s M x n (M n) e (I.mate_free n e) in
    record {
      invariant = grows adj symmetric M r s I x n ex e d a;
      frozen_label = λ z. let l = S.frozen_label z in let fc = I.mate_free n e in elim (test z (M n)) [
        | same i j ↦ cc
        | different i ↦ elim (test z n) [ same j k ↦ cc | different j ↦ cc ]
      ];
      frozen_base = λ z f. let l = S.frozen_label z in let b = S.frozen_base z f in elim (test z (M n)) [
        | same i j ↦ cc (I.mate_free n e)
        | different i ↦ cc
      ];
      scanned = scanned_extends adj symmetric s after L done S.scanned;
    }

module _ (adj : ℕ → ℕ → Bool) (symmetric : Symmetric adj) (M : ℕ → ℕ) (label : ℕ → Label) (base : ℕ → ℕ) (r : ℕ) (s : State)
    (done : ℕ → Bool)
    (x n : ℕ) (N : Scanning adj M label base r s done x n) where
  -- a scan ends
  pub scan_end : ((a b : ℕ) → adj a b ≡ true → b < n) → Searching adj M label base r s (λ z. eqb z x || done z)
  scan_end bound = record {
    invariant = N.search.invariant;
    frozen_label = N.search.frozen_label;
    frozen_base = N.search.frozen_base;
    scanned = scan_whole adj symmetric s done n bound N.search.scanned x N.partly;
  }

  -- nothing to do at n: it is not adjacent, or neither free nor even, or it is in the class of x
  pub scan_skip : (s.label n ≡ Free → adj x n ≡ false) → (s.label n ≡ Even → adj x n ≡ true → s.base x ≡ s.base n)
      → Scanning adj M label base r s done x (suc n)
  scan_skip f b = record {
    search = N.search;
    partly = scan_next adj s done x n N.partly f (λ d a. b (N.search.scanned.done_even n d) a);
  }

  -- the tree grows by n, which is free, and its mate
  pub scan_grow : s.label n ≡ Free → eqb (M n) n ≡ false → adj x n ≡ true
      → Scanning adj M label base r (grown M s x n (M n)) done x (suc n)
  scan_grow e d a =
      let S = N.search in let I = S.invariant in let after : State = grown M s x n (M n) in
      let L = grown_extends adj symmetric s M x n (M n) e (I.mate_free n e) in
      record {
        search = search_grow adj symmetric M label base r s done S x n N.partly.x_even e d a;
        partly = scan_next adj after done x n (partly_scanned_extends adj symmetric s after L done S.scanned x n N.partly)
            (λ h. elim (test n (M n)) [ same i j ↦ cc | different i ↦ cc (eqb_refl n) ])
            (λ d b. cc (S.scanned.done_even n d));
      }

  -- the edge from x to the even n closes a blossom, and k is where the walk up from x leaves its cycle
  pub scan_blossom : s.label n ≡ Even → adj x n ≡ true → (k : ℕ) → Walk M s (cycle M s x n) x k → cycle M s x n (M k) ≡ false
      → (o : ℕ → ℕ) (c : ℕ) → NewOrders s (cycle M s x n) o c
      → Scanning adj M label base r (shrunk M s (cycle M s x n) (λ v. cond (below M s v x) x n) (λ v. cond (below M s v x) n x) k o c) done
      x (suc n)
  scan_blossom e a k W nk o c O =
      let S = N.search in let I = S.invariant in let ex = N.partly.x_even in
      let B = closes adj symmetric M r s I x n ex e a k W nk in
      let p : ℕ → ℕ = λ v. cond (below M s v x) x n in let q : ℕ → ℕ = λ v. cond (below M s v x) n x in
      let L = shrunk_extends adj symmetric s M (cycle M s x n) p q k o c B.cycle_odd in
      let after : State = shrunk M s (cycle M s x n) p q k o c in
      record {
        search = record {
          invariant = shrinks adj symmetric M r s I (cycle M s x n) p q x k B o c O;
          frozen_label = λ z. let l = S.frozen_label z in elim (is (cycle M s x n z)) [ yes i ↦ cc (B.cycle_odd z i) | no i ↦ cc ];
          frozen_base = λ z f. let l = S.frozen_label z in let b = S.frozen_base z f in elim (is (cycle M s x n z)) [
            | yes i ↦ cc (B.cycle_odd z i)
            | no i ↦ elim (label_case (s.label z)) [ is_free j ↦ cc | is_even j ↦ cc | is_odd j ↦ cc | is_frozen j ↦ cc ]
          ];
          scanned = scanned_extends adj symmetric s after L done S.scanned;
        };
        partly = scan_next adj after done x n (partly_scanned_extends adj symmetric s after L done S.scanned x n N.partly)
            (λ f. cc (L.free_before n f))
            (λ d b. cc (joins adj symmetric M r s I x n ex e a k W nk));
      }

-- The scanned vertices, and that what is scanned stays so in every later state of the search.
use Prim.Native.Nat.{ℕ, ◌<◌}
use mathlib.Core.Path.{◌≡◌}
use mathlib.Core.Bool.{Bool, true, ◌||◌}
use lib.Dec.{eqb}
use Rattle.ring.proofs.Cases.{yes, no, is, same, different, test}
use Rattle.blossom.specs.Internal.Labels.{Free, Even, Odd}
use Rattle.blossom.specs.Internal.Rows.{Symmetric}
use Rattle.blossom.specs.Internal.Searches.{Scanned, PartlyScanned}
use Rattle.blossom.specs.Internal.State.{State}
use Rattle.blossom.proofs.Shrunk.{shrunk}
use Rattle.blossom.proofs.Grow.{grown}
use Rattle.blossom.proofs.LabelLaws.{apart_by_even}

-- a later state: even vertices stay even, free ones were free before, and classes stay together
pub record Extends (s later : State) : Type 0 where
  pub even_stays : (z : ℕ) → s.label z ≡ Even → later.label z ≡ Even
  pub free_before : (z : ℕ) → later.label z ≡ Free → s.label z ≡ Free
  pub joined : (a b : ℕ) → s.label a ≡ Even → s.label b ≡ Even → s.base a ≡ s.base b → later.base a ≡ later.base b

module _ (adj : ℕ → ℕ → Bool) (symmetric : Symmetric adj) (s : State) where
  module _ (later : State) (L : Extends s later) (done : ℕ → Bool) (S : Scanned adj s done) where
    pub scanned_extends : Scanned adj later done
    scanned_extends = record {
      done_even = λ x d. L.even_stays x (S.done_even x d);
      done_free = λ x y d f. S.done_free x y d (L.free_before y f);
      done_base = λ x y d e a. L.joined x y (S.done_even x d) (S.done_even y e) (S.done_base x y d e a);
    }

    pub partly_scanned_extends : (x n : ℕ) → PartlyScanned adj s done x n → PartlyScanned adj later done x n
    partly_scanned_extends x n C = record {
      x_even = L.even_stays x C.x_even;
      x_free = λ y l f. C.x_free y l (L.free_before y f);
      x_base = λ y l d a. L.joined x y C.x_even (S.done_even y d) (C.x_base y l d a);
    }

  -- x is scanned against all vertices
  pub scan_whole : (done : ℕ → Bool) (m : ℕ) → ((a b : ℕ) → adj a b ≡ true → b < m) → Scanned adj s done → (x : ℕ)
      → PartlyScanned adj s done x m
      → Scanned adj s (λ z. eqb z x || done z)
  scan_whole done m bound S x C = record {
    done_even = λ z d. elim (test z x) [ same e f ↦ cc C.x_even | different e ↦ S.done_even z (cc) ];
    done_free = λ a b d f. elim (is (adj a b)) [
      | no e ↦ e
      | yes e ↦ elim (test a x) [ same g h ↦ cc (C.x_free b (bound a b e) f) | different g ↦ S.done_free a b (cc) f ]
    ];
    done_base = λ a b d e h. elim (test a x) [
      | same f g ↦ elim (test b x) [ same i j ↦ cc | different i ↦ cc (C.x_base b (bound a b h) (cc) (cc)) ]
      | different f ↦ elim (test b x) [
        | same i j ↦ cc (C.x_base a (bound b a (cc (symmetric a b))) (cc) (cc (symmetric a b)))
        | different i ↦ S.done_base a b (cc) (cc) h
      ]
    ];
  }

  pub grown_extends : (M : ℕ → ℕ) (x y c : ℕ) → s.label y ≡ Free → s.label c ≡ Free → Extends s (grown M s x y c)
  grown_extends M x y c fy fc = record {
    even_stays = λ z e. cc ((apart_by_even s.label z y (cc) (cc)).left, (apart_by_even s.label z c (cc) (cc)).left);
    free_before = λ z e. elim (test z c) [ same f g ↦ cc | different f ↦ elim (test z y) [ same g h ↦ cc | different g ↦ cc ] ];
    joined = λ a b ea eb e. cc ((apart_by_even s.label a c (cc) (cc)).left, (apart_by_even s.label b c (cc) (cc)).left);
  }

  pub shrunk_extends : (M : ℕ → ℕ) (A : ℕ → Bool) (p q : ℕ → ℕ) (k : ℕ) (o : ℕ → ℕ) (c : ℕ) → ((v : ℕ) → A v ≡ true → s.label v ≡ Odd)
      → Extends s (shrunk M s A p q k o c)
  shrunk_extends M A p q k o c ao = record {
    even_stays = λ z e. elim (is (A z)) [ yes f ↦ cc | no f ↦ cc ];
    free_before = λ z e. elim (is (A z)) [ yes f ↦ cc | no f ↦ cc ];
    joined = λ a b ea eb e. elim (is (A a)) [
      | yes f ↦ cc (ao a f)
      | no f ↦ elim (is (A b)) [ yes g ↦ cc (ao b g) | no g ↦ cc ]
    ];
  }

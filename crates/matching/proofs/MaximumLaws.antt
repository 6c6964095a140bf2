-- What the loop over the roots needs: rows to start with, and the test that a search is due.
use Prim.Native.Nat.{ℕ, ◌≤◌}
use mathlib.Core.Path.{◌≡◌, refl, sym, ap, ◌∙◌}
use mathlib.Core.Bool.{Bool, true, false, not, ◌&&◌}
use mathlib.Core.List.{List, []}
use native.Mathlib.Omega.{arith}
use lib.Dec.{eqb}
use lib.ListN.{length, replicate, length-replicate, get_or-replicate}
use borrow.Author.Tests.{eqb-true, eq-eqb}
use Rattle.ring.proofs.Cases.{impossible, and_true}
use Rattle.matching.specs.Internal.Search.{Square}

pub square_blank : (m k : ℕ) (row : List ℕ) → m ≤ k → length row ≡ 512 → Square m (replicate k row)
square_blank m k row h e = record {
  many = omega (arith, length-replicate k row);
  wide = λ i l. ap length (get_or-replicate k i row [] (omega arith)) ∙ e;
}

pub open_exposed : (a r : ℕ) (done : Bool) → (eqb a r && not done) ≡ true → a ≡ r
open_exposed a r done e = eqb-true a r (and_true (eqb a r) (not done) e).0

pub open_free : (a r : ℕ) (done : Bool) → (eqb a r && not done) ≡ true → done ≡ false
open_free a r true e = sym (and_true (eqb a r) false e).1
open_free a r false e = refl

pub open_not : (a r : ℕ) (done : Bool) → (eqb a r && not done) ≡ false → a ≡ r → done ≡ true
open_not a r true e f = refl
open_not a r false e f = impossible (cc (eq-eqb a r f))

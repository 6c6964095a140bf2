-- A book of no nodes turns every call down.
use Prim.Native.Nat.{ℕ}
use mathlib.Core.Path.{◌≡◌, refl}
use mathlib.Core.Bool.{Bool, true, false, cond}
use mathlib.Core.List.{[]}
use native.Mathlib.Omega.{arith}
use lib.Dec.{eqb, leb}
use borrow.Author.Tests.{le-leb}
use Rattle.std.specs.Prelude.{Result, Ok, Err}
use Rattle.ring.specs.declared.refusals.Refusal.{Refusal}
use Rattle.ring.specs.declared.refusals.Refusal.TheVariants.{SerialNeverGiven, LinkNumber}
use Rattle.ring.specs.Refusals.{Verdict, or_else}
use Rattle.ring.specs.Admission.{ends_verdict}
use Rattle.book.specs.declared.circuits.Circuit.{Circuit}
use Rattle.book.specs.Books.{no_nodes}
use Rattle.book.specs.Crews.{crew_verdict}
use Rattle.book.specs.Grants.{argument_verdict}
use Rattle.book.specs.Orders.{lookup, missing, shown, own_shown, show_unless, shown_to}
use Rattle.book.specs.Removals.{removed}
use Rattle.book.specs.Confirmations.{absent, confirmed}
use Rattle.book.specs.Holders.{holder_in, holder_verdict, holder_unless, held_for}
use Rattle.book.specs.NoNodes.{TurnsAllDown}
use Rattle.book.proofs.Serials.{none_given}

same_both : (t : Bool) (a : Result Circuit Refusal) → cond t a a ≡ a
same_both true a = refl
same_both false a = refl

order_down : (crew s : ℕ) → shown_to crew no_nodes s ≡ show_unless (crew_verdict crew) (Err SerialNeverGiven)
unfolding shown_to shown own_shown lookup missing
order_down crew s = simp (none_given s, same_both (eqb crew 0) (Err SerialNeverGiven))

link_down : (crew link colour : ℕ) → held_for crew no_nodes link colour ≡ holder_unless (crew_verdict crew) (Err LinkNumber)
unfolding held_for holder_verdict
link_down crew link colour = go (crew_verdict crew) (le-leb 0 link (omega arith))
  where
    go : (t : Verdict) → leb 0 link ≡ true → holder_unless (or_else t (holder_verdict no_nodes link colour)) (Ok (holder_in crew [] link colour))
        ≡ holder_unless t (Err LinkNumber)
    go (Ok allowed) e = simp e
    go (Err r) e = refl

pub turns_all_down : TurnsAllDown
unfolding argument_verdict ends_verdict removed confirmed lookup missing absent
turns_all_down = record {
  grants = λ x y way colour crew. simp (le-leb 0 x (omega arith));
  removals = λ serial. simp (none_given serial);
  confirmations = λ serial. simp (none_given serial);
  orders = order_down;
  holders = link_down;
}

-- The grant by ends is the grant by links, in every valid book.
use Prim.Native.Nat.{ℕ, ◌+◌, ◌<◌}
use mathlib.Core.Path.{◌≡◌, refl, sym, ◌∙◌, ap}
use mathlib.Core.Bool.{Bool}
use Rattle.std.specs.Prelude.{Ok, Err}
use Rattle.ring.specs.declared.refusals.Refusal.{Refusal}
use Rattle.ring.specs.declared.refusals.Refusal.TheVariants.{ColourHeld}
use Rattle.ring.specs.Requests.{request_of}
use Rattle.ring.specs.Refusals.{Verdict, refuse_if, or_else}
use Rattle.ring.proofs.AdmissionLaws.{both_allowed}
use Rattle.book.specs.declared.books.Book.{Book}
use Rattle.book.specs.Grants.{Granted}
use Rattle.book.specs.Books.{records_of, Valid}
use Rattle.book.specs.Grants.{way_of, circuit_of, argument_verdict, room_verdict, grant_verdict, with_circuit, grant_unless, granted}
use Rattle.book.specs.Grants.{GrantPromise}
use Rattle.book.specs.Internal.Conflicts.{conflict_in, verdict_by_ends}
use Rattle.book.proofs.ConflictLaws.{conflict_means}
use Rattle.book.proofs.Verdicts.{GoodArguments, good_arguments, good_room}

-- two verdicts are one if what follows the first is one wherever the first allows it
or_else_same : (v p q : Verdict) → (v ≡ Ok tt → p ≡ q) → or_else v p ≡ or_else v q
or_else_same (Ok allowed) p q h = h refl
or_else_same (Err r) p q h = refl

-- a verdict that allows says that there is a place and a serial
pub room_there : (b : Book) (x y way colour crew : ℕ) → verdict_by_ends b x y way colour crew ≡ Ok tt
    → (b.records < 512) × (b.grants < 65535)
unfolding verdict_by_ends
room_there b x y way colour crew e =
    let room = room_verdict b.records b.grants in
    let held = refuse_if (conflict_in (records_of b) (way_of way) (request_of x y) colour) ColourHeld in
    good_room b.records b.grants
    (both_allowed held room (both_allowed (argument_verdict b.n b.w x y way colour crew) (or_else held room) e).1).1

module _ (b : Book) (x y way colour crew : ℕ) where
  pub verdict_means : Valid b → verdict_by_ends b x y way colour crew ≡ grant_verdict b x y way colour crew
  unfolding verdict_by_ends grant_verdict
  verdict_means v =
      or_else_same (argument_verdict b.n b.w x y way colour crew) _ _ (λ e.
      let g : GoodArguments b.n b.w x y way colour crew = good_arguments b.n b.w x y way colour crew e in
      ap (λ (t : Bool). or_else (refuse_if t ColourHeld) (room_verdict b.records b.grants))
      (conflict_means b v (way_of way) (request_of x y) colour g.ordered g.nodes))

  -- the promise, from the answer that a verdict by ends leads to
  abbrev made : Granted → Verdict → Type 0
  made r v = r ≡ grant_unless v b (circuit_of (b.grants + 1) x y way colour crew)

  promise : (r : Granted) → made r (verdict_by_ends b x y way colour crew) → GrantPromise b x y way colour crew r
  unfolding verdict_by_ends granted
  promise r m = record {
    arguments = λ ground e. m
        ∙ ap (λ (t : Verdict).
        grant_unless (or_else t
        (or_else (refuse_if (conflict_in (records_of b) (way_of way) (request_of x y) colour) ColourHeld)
        (room_verdict b.records b.grants))) b
        (circuit_of (b.grants + 1) x y way colour crew)) e;
    valid = λ v. m ∙ ap (λ (t : Verdict). grant_unless t b (circuit_of (b.grants + 1) x y way colour crew)) (verdict_means v);
  }

  pub grant_refused : (r : Refusal) → verdict_by_ends b x y way colour crew ≡ Err r
      → GrantPromise b x y way colour crew (record { answer = Err r; book = b })
  grant_refused r e = promise _ (ap (λ (t : Verdict). grant_unless t b (circuit_of (b.grants + 1) x y way colour crew)) (sym e))

  pub grant_allowed : verdict_by_ends b x y way colour crew ≡ Ok tt
      → GrantPromise b x y way colour crew
      (record { answer = Ok (b.grants + 1); book = with_circuit b (circuit_of (b.grants + 1) x y way colour crew) })
  grant_allowed e = promise _ (ap (λ (t : Verdict). grant_unless t b (circuit_of (b.grants + 1) x y way colour crew)) (sym e))

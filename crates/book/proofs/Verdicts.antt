-- What is so where a grant is turned down on no ground.
use Prim.Native.Nat.{ℕ, ◌≤◌, ◌<◌, min, max}
use mathlib.Core.Path.{◌≡◌}
use mathlib.Core.Bool.{false}
use lib.Dec.{leb, ltb}
use borrow.Author.Tests.{leb-false, ltb-false}
use Rattle.std.specs.Prelude.{Ok}
use Rattle.ring.specs.declared.refusals.Refusal.TheVariants.{CircuitEnd, CircuitEndsEqual, WayNumber, ColourNumber, ColourHeld, BookFull}
use Rattle.ring.specs.declared.refusals.Refusal.TheVariants.{SerialsUsedUp, CrewNumber}
use Rattle.ring.specs.Requests.{request_of}
use Rattle.ring.specs.Refusals.{refuse_if, or_else}
use Rattle.ring.specs.Admission.{ends_verdict}
use Rattle.ring.proofs.AdmissionLaws.{refuse_allowed, both_allowed, ends_limits}
use Rattle.book.specs.declared.books.Book.{Book}
use Rattle.book.specs.Crews.{crew_verdict}
use Rattle.book.specs.Grants.{way_of, colour_held, argument_verdict, room_verdict, grant_verdict}

-- not 26
pub crew_limit : (crew : ℕ) → crew_verdict crew ≡ Ok tt → crew ≤ 999
unfolding crew_verdict
crew_limit crew e = ltb-false 999 crew (refuse_allowed (ltb 999 crew) CrewNumber e)

-- none of 4, 5, 9, 10, 26
pub record GoodArguments (n w x y way colour crew : ℕ) : Type 0 where
  pub ordered : min x y < max x y
  pub nodes : max x y < n
  pub colours : colour < w
  pub crews : crew ≤ 999

pub good_arguments : (n w x y way colour crew : ℕ) → argument_verdict n w x y way colour crew ≡ Ok tt
    → GoodArguments n w x y way colour crew
unfolding argument_verdict
good_arguments n w x y way colour crew e =
    let ways = refuse_if (ltb 1 way) WayNumber in
    let colours = refuse_if (leb w colour) ColourNumber in
    let p = both_allowed (ends_verdict n x y CircuitEnd CircuitEndsEqual) (or_else ways (or_else colours (crew_verdict crew))) e in
    let q = both_allowed ways (or_else colours (crew_verdict crew)) p.1 in
    let r = both_allowed colours (crew_verdict crew) q.1 in
    let ends = ends_limits n x y CircuitEnd CircuitEndsEqual p.0 in
    record {
      ordered = ends.0;
      nodes = ends.1;
      colours = leb-false w colour (refuse_allowed (leb w colour) ColourNumber r.0);
      crews = crew_limit crew r.1;
    }

-- neither 12 nor 13
pub good_room : (records grants : ℕ) → room_verdict records grants ≡ Ok tt → (records < 512) × (grants < 65535)
unfolding room_verdict
good_room records grants e =
    let p = both_allowed (refuse_if (leb 512 records) BookFull) (refuse_if (leb 65535 grants) SerialsUsedUp) e in (
      leb-false 512 records (refuse_allowed (leb 512 records) BookFull p.0),
      leb-false 65535 grants (refuse_allowed (leb 65535 grants) SerialsUsedUp p.1),
    )

-- no ground at all
pub record GoodGrant (b : Book) (x y way colour crew : ℕ) : Type 0 where
  pub arguments : GoodArguments b.n b.w x y way colour crew
  pub free : colour_held b (way_of way) (request_of x y) colour ≡ false
  pub places : b.records < 512
  pub serials : b.grants < 65535

pub good_grant : (b : Book) (x y way colour crew : ℕ) → grant_verdict b x y way colour crew ≡ Ok tt → GoodGrant b x y way colour crew
unfolding grant_verdict
good_grant b x y way colour crew e =
    let held = colour_held b (way_of way) (request_of x y) colour in
    let p = both_allowed (argument_verdict b.n b.w x y way colour crew)
    (or_else (refuse_if held ColourHeld) (room_verdict b.records b.grants)) e in
    let q = both_allowed (refuse_if held ColourHeld) (room_verdict b.records b.grants) p.1 in
    let r = good_room b.records b.grants q.1 in
    record {
      arguments = good_arguments b.n b.w x y way colour crew p.0;
      free = refuse_allowed held ColourHeld q.0;
      places =
          r.0;
      serials = r.1;
    }

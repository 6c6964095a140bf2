-- The lines of some of the records, one behind the other, whatever a line says.
use Prim.Native.Nat.{ℕ, suc, ◌+◌, ◌*◌, ◌≤◌, ◌<◌}
use mathlib.Core.Path.{◌≡◌, refl, sym, ◌∙◌, ap}
use mathlib.Core.Bool.{Bool, true, false, cond, not}
use denote.Enum.Bare.{sameb}
use mathlib.Core.List.{List, [], ◌∷◌}
use native.Mathlib.Omega.{arith}
use native.Mathlib.Nat.{suc-mul, mul-le-mul_right}
use native.Mathlib.Numerals.{add-one}
use lib.ListN.{length, get_or, drop, drop_of_length-le}
use lib.Seq.{drop-cons}
use Rattle.std.specs.Prelude.{filter}
use Rattle.texts.specs.declared.writing.Writer.{Writer}
use Rattle.texts.specs.Internal.Writing.{Room, Wrote}
use Rattle.texts.proofs.WritingLaws.{wrote_then, wrote_none}
use Rattle.book.specs.declared.circuits.Circuit.{Circuit}
use Rattle.book.specs.declared.circuits.RecordState.{RecordState}
use Rattle.book.specs.declared.circuits.RecordState.TheVariants.{Live, Pending}
use Rattle.book.specs.contracts.circuits.RecordState.{the_type}
use Rattle.book.specs.Circuits.{vacant, live_state, is_live}
use Rattle.book.specs.Books.{pending_in}
use Rattle.book_replies.specs.Replies.{lines_with}
use Rattle.book_replies.specs.Internal.Listing.{is_listed}

-- a record is in a state, as the test of the code has it
pub in_state : (state : RecordState) (c : Circuit) {b : Bool} → b ≡ sameb the_type c.state state → is_listed state c ≡ b
in_state Live c e = sym (e ∙ go c.state)
  where
    go : (s : RecordState) → sameb the_type s Live ≡ live_state s
    go Live = refl
    go Pending = refl
in_state Pending c e = sym (e ∙ go c.state)
  where
    go : (s : RecordState) → sameb the_type s Pending ≡ not (live_state s)
    go Live = refl
    go Pending = refl

-- what the lines of the later records make of a writer makes the lines of all of the one before them; each line has at most so many bytes
pub record Listed (line : Circuit → List ℕ) (most : ℕ) (p : Circuit → Bool) (cs : List Circuit) (before : Writer) (i : ℕ) (now : Writer) :
    Type 0 where
  pub few : now.at ≤ before.at + i * most
  pub size : length now.out.now ≡ length before.out.now
  pub same : (after : Writer) → Wrote now (lines_with line (filter p (drop i cs))) after → Wrote before (lines_with line (filter p cs)) after

module _ (line : Circuit → List ℕ) (most : ℕ) (p : Circuit → Bool) (cs : List Circuit) (before : Writer) where
  pub listed_none : Listed line most p cs before 0 before
  listed_none = record { few = omega arith; size = refl; same = λ after w. w }

  module _ (i : ℕ) {now : Writer} (l : Listed line most p cs before i now) where
    pub listed_room : i < 512 → Room (512 * most) before → Room most now
    listed_room h k =
        let few = l.few in
        let size = l.size in
        let more = suc-mul i most in
        let all : suc i * most ≤ 512 * most = mul-le-mul_right most (omega arith) in
        omega arith

    next : i < length cs → drop i cs ≡ get_or cs i vacant ∷ drop (i + 1) cs
    next h = rw (add-one, drop-cons cs i vacant)

    -- a record that is not listed, and the line of one that is
    pub listed_not : i < length cs → p (get_or cs i vacant) ≡ false → Listed line most p cs before (i + 1) now
    listed_not h e =
        let few = l.few in
        let more = suc-mul i most in
        record {
          few = rw add-one (omega arith);
          size = l.size;
          same = λ after w. l.same after (rw (next h, e) w);
        }

    pub listed_so : i < length cs → p (get_or cs i vacant) ≡ true → length (line (get_or cs i vacant)) ≤ most → {to : Writer}
        → Wrote now (line (get_or cs i vacant)) to → Listed line most p cs before (i + 1) to
    listed_so h e short {to} v =
        let few = l.few in
        let more = suc-mul i most in
        let follows = v.follows in
        record {
          few = rw add-one (omega arith);
          size = v.kept ∙ l.size;
          same = λ after w. l.same after (rw (next h, e) (wrote_then v w));
        }

    pub listed_all : length cs ≤ i → i ≤ 512 → Room (512 * most) before → Wrote before (lines_with line (filter p cs)) now
    listed_all h most_i room =
        let few = l.few in
        let size = l.size in
        let all : i * most ≤ 512 * most = mul-le-mul_right most most_i in
        l.same now (rw (drop_of_length-le cs h) (wrote_none now (omega arith)))

-- the pending ones are those in that state
pub pending_is : (cs : List Circuit) → pending_in cs ≡ filter (is_listed Pending) cs
pending_is [] = refl
pending_is (c ∷ cs) = go (is_live c) (pending_is cs)
  where
    go : (t : Bool) → pending_in cs ≡ filter (is_listed Pending) cs
        → cond t (pending_in cs) (c ∷ pending_in cs) ≡ cond (not t) (c ∷ filter (is_listed Pending) cs) (filter (is_listed Pending) cs)
    go true e = e
    go false e = ap (λ (l : List Circuit). c ∷ l) e

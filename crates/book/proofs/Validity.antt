-- Every operation keeps a book valid.
use Prim.Native.Nat.{ℕ, ◌+◌, ◌≤◌, ◌<◌}
use mathlib.Core.Path.{◌≡◌, refl, sym, ◌∙◌, ap, subst}
use mathlib.Core.Bool.{Bool, true, false, ◌&&◌}
use mathlib.Core.List.{List, [], ◌∷◌, ◌++◌}
use native.Mathlib.Omega.{arith}
use lib.Dec.{eqb}
use lib.ListN.{length, set}
use borrow.Author.Tests.{eqb-true}
use Rattle.ring.specs.Requests.{request_of}
use Rattle.ring.specs.Ways.{uses}
use Rattle.ring.proofs.Cases.{and_true}
use Rattle.ring.proofs.WayLaws.{some_none}
use Rattle.book.specs.declared.circuits.Circuit.{Circuit}
use Rattle.book.specs.declared.books.Book.{Book}
use Rattle.book.specs.Circuits.{as_pending, circuit, holds}
use Rattle.book.specs.Books.{records_of, book_of, Valid, ValidCircuits}
use Rattle.book.specs.Grants.{way_of, circuit_of, held_in, held_on_way, colour_held, with_circuit, granted}
use Rattle.book.specs.Removals.{with_record, removed}
use Rattle.book.specs.Confirmations.{without, without_circuit, confirmed}
use Rattle.book.specs.History.{KeepsValid}
use Rattle.book.proofs.Opening.{opened_book, opened_valid}
use Rattle.book.proofs.Forms.{records_form, valid_records, with_form, without_form, record_form, length_without}
use Rattle.book.proofs.CircuitLists.{snoc_length, all_snoc, pairs_snoc, all_without, pairs_without}
use Rattle.book.proofs.ConflictLaws.{true_and, holds_held}
use Rattle.book.proofs.States.{pending_alike, alike_valid}
use Rattle.book.proofs.Outcomes.{grant_cases, removal_cases, confirmation_cases}
use Rattle.book.proofs.Verdicts.{GoodGrant}

-- the book with valid circuits
pub valid_of : (n w g : ℕ) (cs : List Circuit) → (3 ≤ n) × (n ≤ 256) → (1 ≤ w) × (w ≤ 128) → g ≤ 65535 → ValidCircuits n w g cs
    → Valid (book_of n w g cs)
valid_of n w g cs hn hw hg v =
    record {
      nodes = hn;
      colours = hw;
      few = hg;
      form = ap (book_of n w g) (sym (records_form n w g cs));
      circuits =
          subst (ValidCircuits n w g) (sym (records_form n w g cs)) v;
    }

-- a new circuit with the next serial, and with no colour on a link that another one holds
pub snoc_valid : (n w g : ℕ) (cs : List Circuit) (c : Circuit) → ValidCircuits n w g cs → length cs < 512 → c.serial ≡ g + 1 → c.a < c.b
    → c.b < n → c.colour < w → c.crew ≤ 999
    → ((i : ℕ) → i < length cs → (link colour : ℕ) → link < n → holds (circuit cs i) link colour ≡ true → holds c link colour ≡ false)
    → ValidCircuits n w (g + 1) (cs ++ (c ∷ []))
snoc_valid n w g cs c v room e h₁ h₂ h₃ h₄ new =
    record {
      room = omega (arith, snoc_length cs c);
      given = all_snoc cs c (λ x. (1 ≤ x.serial) × (x.serial ≤ g + 1)) (λ i h. let p = v.given i h in (p.0, omega arith))
          (omega arith, omega arith);
      rising = pairs_snoc cs c (λ x y. x.serial < y.serial) v.rising (λ i h. let p = v.given i h in omega arith);
      ends = all_snoc cs c (λ x. (x.a < x.b) × (x.b < n)) v.ends (h₁, h₂);
      colours = all_snoc cs c (λ x. x.colour < w) v.colours h₃;
      crews = all_snoc cs c (λ x. x.crew ≤ 999) v.crews h₄;
      apart = pairs_snoc cs c (λ x y. (link colour : ℕ) → link < n → holds x link colour ≡ true → holds y link colour ≡ false)
          v.apart new;
    }

pub without_valid : (n w g : ℕ) (cs : List Circuit) (at : ℕ) → ValidCircuits n w g cs → at < length cs → ValidCircuits n w g (without at cs)
without_valid n w g cs at v l =
    let room : length cs ≤ 512 = v.room in
    record {
      room = omega (arith, length_without at cs l);
      given = all_without cs at l (λ x. (1 ≤ x.serial) × (x.serial ≤ g)) (λ i h d. v.given i h);
      rising = pairs_without cs at l (λ x y. x.serial < y.serial) v.rising;
      ends = all_without cs at l (λ x. (x.a < x.b) × (x.b < n)) (λ i h d. v.ends i h);
      colours = all_without cs at l (λ x. x.colour < w) (λ i h d. v.colours i h);
      crews = all_without cs at l (λ x. x.crew ≤ 999) (λ i h d. v.crews i h);
      apart = pairs_without cs at l (λ x y. (link colour : ℕ) → link < n → holds x link colour ≡ true → holds y link colour ≡ false)
          v.apart;
    }

module _ (b : Book) (v : Valid b) where
  -- ground 11 is not there: the new circuit holds nothing that a record holds
  new_apart : (s x y way colour crew : ℕ) → colour_held b (way_of way) (request_of x y) colour ≡ false
      → (i : ℕ) → i < length (records_of b) → (link k : ℕ) → link < b.n → holds (circuit (records_of b) i) link k ≡ true
      → holds (circuit_of s x y way colour crew) link k ≡ false
  unfolding colour_held held_on_way holds
  new_apart s x y way colour crew free i h link k l e = go (holds (circuit_of s x y way colour crew) link k) refl
    where
      go : (t : Bool) → holds (circuit_of s x y way colour crew) link k ≡ t → t ≡ false
      go false q = refl
      go true q =
          let p = and_true (eqb colour k) (uses (way_of way) (request_of x y) link) q in
          let g : holds (circuit (records_of b) i) link colour ≡ true =
          subst (λ (m : ℕ). holds (circuit (records_of b) i) link m ≡ true) (sym (eqb-true colour k p.0)) e in
          let f : (uses (way_of way) (request_of x y) link && held_in (records_of b) link colour) ≡ true =
          true_and (uses (way_of way) (request_of x y) link) (held_in (records_of b) link colour) p.1
          (holds_held (records_of b) link colour i h g) in
          sym f ∙ some_none b.n (λ j. uses (way_of way) (request_of x y) j && held_in (records_of b) j colour) free link l

  pub with_valid : (x y way colour crew : ℕ) → GoodGrant b x y way colour crew
      → Valid (with_circuit b (circuit_of (b.grants + 1) x y way colour crew))
  with_valid x y way colour crew g =
      let room : length (records_of b) < 512 = omega (arith, valid_records b v, g.places) in
      let c : Circuit = circuit_of (b.grants + 1) x y way colour crew in
      let few : b.grants + 1 ≤ 65535 = omega (arith, g.serials) in
      subst Valid (sym (with_form b v c room))
      (valid_of b.n b.w (b.grants + 1) (records_of b ++ (c ∷ [])) v.nodes v.colours few
      (snoc_valid b.n b.w b.grants (records_of b) c v.circuits room refl g.arguments.ordered g.arguments.nodes
      g.arguments.colours g.arguments.crews (new_apart (b.grants + 1) x y way colour crew g.free)))

  pub removal_valid : (i : ℕ) → i < length (records_of b) → Valid (with_record i (as_pending (circuit (records_of b) i)) b)
  removal_valid i h =
      let ds : List Circuit = set (records_of b) i (as_pending (circuit (records_of b) i)) in
      subst Valid (sym (record_form b v i (as_pending (circuit (records_of b) i)) h))
      (valid_of b.n b.w b.grants ds v.nodes v.colours v.few
      (alike_valid b.n b.w b.grants (records_of b) ds (pending_alike (records_of b) i) v.circuits))

  pub confirmation_valid : (i : ℕ) → i < length (records_of b) → Valid (without_circuit i b)
  confirmation_valid i h =
      subst Valid (sym (without_form b v i h))
      (valid_of b.n b.w b.grants (without i (records_of b)) v.nodes v.colours v.few
      (without_valid b.n b.w b.grants (records_of b) i v.circuits h))

  -- the operations
  pub grant_valid : (x y way colour crew : ℕ) → Valid (granted b x y way colour crew).book
  grant_valid x y way colour crew =
      grant_cases b x y way colour crew (λ d. Valid d.book) (with_valid x y way colour crew) (λ r. v)

  pub remove_valid : (s : ℕ) → Valid (removed b s).book
  remove_valid s = removal_cases b s (λ d. Valid d.book) (λ i h serial live. removal_valid i h) (λ r. v)

  pub confirm_valid : (s : ℕ) → Valid (confirmed b s).book
  confirm_valid s = confirmation_cases b s (λ d. Valid d.book) (λ i h serial pending. confirmation_valid i h) (λ r. v)

pub keeps_valid : KeepsValid
keeps_valid = record {
  opening = λ n w e. subst Valid (sym (opened_book n w e)) (opened_valid n w e);
  granting = grant_valid;
  removing = remove_valid;
  confirming = confirm_valid;
}

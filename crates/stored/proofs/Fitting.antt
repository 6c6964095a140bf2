-- The tests of load pass exactly on valid books.
use Prim.Native.Nat.{ℕ, zero, suc, ◌≤◌, ◌<◌}
use mathlib.Core.Path.{◌≡◌, refl, sym, ◌∙◌, ap, subst}
use mathlib.Core.Bool.{true, false, not, ◌&&◌}
use mathlib.Core.List.{List}
use native.Mathlib.Omega.{arith}
use borrow.Author.Tests.{eqb-true, eq-eqb, ltb-true, leb-true, lt-ltb, le-leb, not-true}
use lib.Dec.{eqb}
use lib.ListN.{length, take}
use lib.Seq.{get_or-take, length-take-le}
use Rattle.ring.specs.Ways.{uses}
use Rattle.ring.proofs.Cases.{compare, less, not_less, and_true}
use Rattle.ring.proofs.WayLaws.{not_both, found_some, none_some}
use Rattle.book.specs.declared.circuits.Circuit.{Circuit}
use Rattle.book.specs.declared.books.Book.{Book}
use Rattle.book.specs.Circuits.{vacant, circuit, ends_of, holds}
use Rattle.book.specs.Books.{records_of, book_of, Valid, ValidCircuits}
use Rattle.book.specs.Grants.{held_in, held_on_way}
use Rattle.book.proofs.ConflictLaws.{true_and}
use Rattle.book.proofs.CircuitLists.{Place, some_place, place_some}
use Rattle.stored.specs.Validity.{ring_fits, circuit_fits, serial_fits, may_follow, last_serial, circuits_fit, book_fits}
use Rattle.stored.proofs.Joins.{never, contrary}

module _ (b : Book) where
  abbrev cs : List Circuit
  cs = records_of b

  abbrev at : ℕ → Circuit
  at i = circuit (records_of b) i

  pub earlier : (i j : ℕ) → j < i → circuit (take i cs) j ≡ at j
  earlier i j h = get_or-take i cs j vacant h

  -- a valid book passes
  module _ (v : Valid b) where
    not_held : (i : ℕ) → i < length cs → held_on_way b.n (take i cs) (at i).way (ends_of (at i)) (at i).colour ≡ false
    unfolding held_on_way held_in holds
    not_held i h =
        none_some b.n (λ link. uses (at i).way (ends_of (at i)) link && held_in (take i cs) link (at i).colour) (λ link l.
        not_both (uses (at i).way (ends_of (at i)) link) (held_in (take i cs) link (at i).colour) (λ used held.
        let p : Place (take i cs) (λ c. holds c link (at i).colour) = some_place (take i cs) (λ c. holds c link (at i).colour) held in
        let k : p.place < i = omega (arith, p.below, length-take-le i cs (omega arith)) in
        let q : holds (at p.place) link (at i).colour ≡ true =
        sym (ap (λ (c : Circuit). holds c link (at i).colour) (earlier i p.place k)) ∙ p.has in
        contrary (true_and (eqb (at i).colour (at i).colour) (uses (at i).way (ends_of (at i)) link)
        (eq-eqb (at i).colour (at i).colour refl) used)
        (v.circuits.apart p.place i k h link (at i).colour l q)))

    last_below : (i : ℕ) → i < length cs → last_serial cs i < (at i).serial
    last_below zero h = let g = v.circuits.given 0 h in omega arith
    last_below (suc i) h = v.circuits.rising i (suc i) (omega arith) h

    follows : (i : ℕ) → i < length cs → may_follow b (take i cs) (last_serial cs i) (at i) ≡ true
    unfolding may_follow circuit_fits serial_fits
    follows i h =
        let e = v.circuits.ends i h in
        let k = v.circuits.colours i h in
        let g = v.circuits.given i h in
        true_and _ _
        (true_and _ _
        (true_and _ _ (true_and _ _ (lt-ltb _ _ e.0) (lt-ltb _ _ e.1))
        (true_and _ _ (lt-ltb _ _ k) (le-leb _ _ (v.circuits.crews i h))))
        (true_and _ _ (lt-ltb _ _ (last_below i h)) (le-leb _ _ g.1)))
        (ap not (not_held i h))

    all_follow : (i : ℕ) → i ≤ length cs → circuits_fit b i ≡ true
    all_follow zero h = refl
    all_follow (suc i) h =
        true_and (circuits_fit b i) (may_follow b (take i cs) (last_serial cs i) (at i)) (all_follow i (omega arith)) (follows i (omega arith))

    pub valid_fits : book_fits b ≡ true
    unfolding book_fits ring_fits
    valid_fits =
        true_and _ _
        (true_and _ _ (true_and _ _ (le-leb _ _ v.nodes.0) (le-leb _ _ v.nodes.1))
        (true_and _ _ (le-leb _ _ v.colours.0) (le-leb _ _ v.colours.1)))
        (all_follow (length cs) (omega arith))

  -- what passes is valid
  pub each_follows : (m : ℕ) → circuits_fit b m ≡ true → (i : ℕ) → i < m → may_follow b (take i cs) (last_serial cs i) (at i) ≡ true
  each_follows zero e i h = absurd (omega arith)
  each_follows (suc m) e i h =
      let s = and_true (circuits_fit b m) (may_follow b (take m cs) (last_serial cs m) (at m)) e in
      elim (compare i m) [
        | less l p ↦ each_follows m s.0 i l
        | not_less l p ↦
            let q : m ≡ i = omega arith in
            subst (λ (j : ℕ). may_follow b (take j cs) (last_serial cs j) (at j) ≡ true) q s.1
      ]

  pub record Following (i : ℕ) : Type 0 where
    pub ordered : (at i).a < (at i).b
    pub nodes : (at i).b < b.n
    pub colour : (at i).colour < b.w
    pub crew : (at i).crew ≤ 999
    pub above : last_serial cs i < (at i).serial
    pub given : (at i).serial ≤ b.grants
    pub free : held_on_way b.n (take i cs) (at i).way (ends_of (at i)) (at i).colour ≡ false

  pub following : (i : ℕ) → may_follow b (take i cs) (last_serial cs i) (at i) ≡ true → Following i
  unfolding may_follow circuit_fits serial_fits
  following i e =
      let s = and_true _ _ e in
      let t = and_true _ _ s.0 in
      let f = and_true _ _ t.0 in
      let p = and_true _ _ f.0 in
      let q = and_true _ _ f.1 in
      let g = and_true _ _ t.1 in
      record {
        ordered = ltb-true _ _ p.0;
        nodes = ltb-true _ _ p.1;
        colour = ltb-true _ _ q.0;
        crew = leb-true _ _ q.1;
        above = ltb-true _ _ g.0;
        given = leb-true _ _ g.1;
        free = not-true _ s.1;
      }

  module _ (few : (i : ℕ) → i < length cs → Following i) where
    rises : (i j : ℕ) → i < j → j < length cs → (at i).serial < (at j).serial
    rises i zero h k = absurd (omega arith)
    rises i (suc j) h k =
        let f : (at j).serial < (at (suc j)).serial = (few (suc j) k).above in
        elim (compare i j) [
          | less l p ↦ let r : (at i).serial < (at j).serial = rises i j l (omega arith) in omega arith
          | not_less l p ↦
              let q : j ≡ i = omega arith in
              subst (λ (m : ℕ). (at m).serial < (at (suc j)).serial) q f
        ]

    -- what an earlier circuit holds, a later one does not
    apart : (i j : ℕ) → i < j → j < length cs → (link colour : ℕ) → link < b.n → holds (at i) link colour ≡ true
        → holds (at j) link colour ≡ false
    unfolding held_on_way held_in holds
    apart i j h k link colour l e =
        never (holds (at j) link colour) (λ f.
        let q = and_true (eqb (at j).colour colour) (uses (at j).way (ends_of (at j)) link) f in
        let same : colour ≡ (at j).colour = sym (eqb-true (at j).colour colour q.0) in
        let there : i < length (take j cs) = omega (arith, length-take-le j cs (omega arith)) in
        let held : held_in (take j cs) link (at j).colour ≡ true =
        place_some (take j cs) (λ c. holds c link (at j).colour) i there (ap (λ (c : Circuit). holds c link (at j).colour) (earlier j i h)
        ∙ subst (λ (x : ℕ). holds (at i) link x ≡ true) same e) in
        contrary (found_some b.n (λ x. uses (at j).way (ends_of (at j)) x && held_in (take j cs) x (at j).colour) link l
        (true_and (uses (at j).way (ends_of (at j)) link) (held_in (take j cs) link (at j).colour) q.1 held))
        (few j k).free)

    pub valid_circuits : length cs ≤ 512 → ValidCircuits b.n b.w b.grants cs
    valid_circuits room =
        record {
          room = room;
          given = λ i h. let f = (few i h).above in (omega arith, (few i h).given);
          rising = rises;
          ends = λ i h. ((few i h).ordered, (few i h).nodes);
          colours = λ i h. (few i h).colour;
          crews = λ i h. (few i h).crew;
          apart = apart;
        }

  pub fits_valid : book_fits b ≡ true → b ≡ book_of b.n b.w b.grants cs → length cs ≤ 512
      → b.grants ≤ 65535 → Valid b
  unfolding book_fits ring_fits
  fits_valid e form room few =
      let s = and_true _ _ e in
      let t = and_true _ _ s.0 in
      let n = and_true _ _ t.0 in
      let w = and_true _ _ t.1 in
      record {
        nodes = (leb-true _ _ n.0, leb-true _ _ n.1);
        colours = (leb-true _ _ w.0, leb-true _ _ w.1);
        few = few;
        form = form;
        circuits = valid_circuits (λ i h. following i (each_follows (length cs) s.1 i h)) room;
      }

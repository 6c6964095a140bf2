-- The tests for a valid book, as a walk over its circuits sees them.
use Prim.Native.Nat.{ℕ, ◌+◌, ◌<◌, ◌≤◌}
use mathlib.Core.Path.{◌≡◌, refl, sym, ◌∙◌, ap}
use mathlib.Core.Bool.{Bool, true, false, not, ◌&&◌, ◌||◌, or-false}
use mathlib.Core.List.{List, [], ◌∷◌, ◌++◌}
use native.Mathlib.Numerals.{add-one}
use native.Mathlib.Omega.{arith}
use borrow.Author.Tests.{ltb-true, leb-true, le-leb}
use lib.Dec.{leb, ltb}
use lib.ListN.{length, take}
use lib.Seq.{take-suc, length-take-le}
use Rattle.std.specs.Prelude.{Ok, Err, is_ok}
use Rattle.ring.specs.declared.refusals.Refusal.{Refusal}
use Rattle.ring.specs.Refusals.{Verdict}
use Rattle.ring.specs.Admission.{ring_verdict, ring_answer}
use Rattle.ring.proofs.AdmissionLaws.{RingLimits, ring_limits, ring_allowed, says_allowed, says_refused, says}
use Rattle.ring.proofs.Cases.{yes, no, is, and_true, impossible}
use Rattle.links.specs.Links.{none, FitsSets}
use Rattle.links.proofs.RowLaws.{Holding, holding_none, holding_more, holding_free}
use Rattle.book.specs.declared.circuits.Circuit.{Circuit}
use Rattle.book.specs.declared.books.Book.{Book}
use Rattle.book.specs.Circuits.{vacant, circuit, some_circuit, ends_of, holds}
use Rattle.book.specs.Books.{records_of}
use Rattle.book.specs.Grants.{held_in, held_on_way}
use Rattle.book.proofs.ConflictLaws.{true_and, conflict_held}
use Rattle.stored.specs.Validity.{ring_fits, circuit_fits, serial_fits, may_follow, last_serial, circuits_fit}
use Rattle.stored.specs.Internal.Following.{NextHolds}
use Rattle.stored.proofs.Joins.{never, contrary}
use Rattle.stored.proofs.Fitting.{Following, earlier, each_follows, following}

-- ---- one circuit

-- the limits, read back
fits_limits : (n w : ℕ) → ring_fits n w ≡ true → RingLimits n w
unfolding ring_fits
fits_limits n w e =
    let s = and_true _ _ e in
    let nodes = and_true (leb 3 n) (leb n 256) s.0 in
    let colours = and_true (leb 1 w) (leb w 128) s.1 in
    record {
      nodes_from = leb-true 3 n nodes.0;
      nodes_to = leb-true n 256 nodes.1;
      colours_from = leb-true 1 w colours.0;
      colours_to = leb-true w 128 colours.1;
    }

limits_fit : (n w : ℕ) → RingLimits n w → ring_fits n w ≡ true
unfolding ring_fits
limits_fit n w l = cc (le-leb 3 n l.nodes_from, le-leb n 256 l.nodes_to, le-leb 1 w l.colours_from, le-leb w 128 l.colours_to)

-- they are those that the ring's constructor tests
pub ring_made : (n w : ℕ) → is_ok (ring_answer n w) ≡ ring_fits n w
unfolding ring_answer
ring_made n w = elim (says (ring_verdict n w)) [
  | says_allowed e ↦ rw (e, limits_fit n w (ring_limits n w e)) refl
  | says_refused r e ↦ rw e (sym (never (ring_fits n w) (λ f. refused r e (ring_allowed n w (fits_limits n w f)))))
]
  where
    refused : (r : Refusal) → ring_verdict n w ≡ Err r → ring_verdict n w ≡ Ok tt → ⊥
    refused r e f = let both : ◌≡◌ {A = Verdict} (Err r) (Ok tt) = sym e ∙ f in impossible (cc)

pub ring_within : (n w : ℕ) → ring_fits n w ≡ true → (n ≤ 256) × (w ≤ 128)
ring_within n w e = let l = fits_limits n w e in (l.nodes_to, l.colours_to)

pub fits_placed : (n w : ℕ) (c : Circuit) (serial : Bool) → n ≤ 256 → w ≤ 128 → (circuit_fits n w c && serial) ≡ true
    → FitsSets (ends_of c) c.colour
unfolding circuit_fits
fits_placed n w c serial h k e =
    let t = and_true _ _ e in
    let f = and_true _ _ t.0 in
    let p = and_true _ _ f.0 in
    let q = and_true _ _ f.1 in
    let last : c.b < n = ltb-true _ _ p.1 in
    let colour : c.colour < w = ltb-true _ _ q.0 in
    record { ordered = ltb-true _ _ p.0; nodes = omega arith; colours = omega arith }

fits_node : (n w : ℕ) (c : Circuit) (serial : Bool) → (circuit_fits n w c && serial) ≡ true → c.b < n
unfolding circuit_fits
fits_node n w c serial e =
    let nodes = ltb c.a c.b && ltb c.b n in
    let numbers = ltb c.colour w && leb c.crew 999 in
    let t = and_true (nodes && numbers) serial e in
    let f = and_true nodes numbers t.0 in
    ltb-true c.b n (and_true (ltb c.a c.b) (ltb c.b n) f.0).1

-- ---- one circuit more

or_assoc : (p q r : Bool) → (p || (q || r)) ≡ ((p || q) || r)
or_assoc true q r = refl
or_assoc false q r = refl

some_snoc : (cs : List Circuit) (c : Circuit) (p : Circuit → Bool) → some_circuit (cs ++ (c ∷ [])) p ≡ (some_circuit cs p || p c)
unfolding some_circuit
some_snoc [] c p = or-false (p c)
some_snoc (x ∷ cs) c p = ap (λ (t : Bool). p x || t) (some_snoc cs c p) ∙ or_assoc (p x) (some_circuit cs p) (p c)

held_next : (cs : List Circuit) (i link colour : ℕ) → i < length cs
    → held_in (take (i + 1) cs) link colour ≡ (held_in (take i cs) link colour || holds (circuit cs i) link colour)
unfolding held_in
held_next cs i link colour h =
    ap (λ (k : ℕ). some_circuit (take k cs) (λ c. holds c link colour)) (add-one i)
    ∙ ap (λ (l : List Circuit). some_circuit l (λ c. holds c link colour)) (take-suc cs i vacant h)
    ∙ some_snoc (take i cs) (circuit cs i) (λ c. holds c link colour)

-- ---- the circuits below i may follow, and hold their links

pub record Walk (b : Book) (rows : List (List ℕ)) (last i : ℕ) : Type 0 where
  pub fits : circuits_fit b i ≡ true
  pub serial : last ≡ last_serial (records_of b) i
  pub holding : Holding rows (λ colour link. held_in (take i (records_of b)) link colour)

pub walk_start : (b : Book) → Walk b none 0 0
unfolding held_in some_circuit
walk_start b = record {
  fits = refl;
  serial = refl;
  holding =
      holding_none (λ colour link. held_in (take 0 (records_of b)) link colour) (λ colour link. refl);
}

module _ (b : Book) (rows after : List (List ℕ)) (last i : ℕ) (c : Circuit) (follows : Bool) (ring : ring_fits b.n b.w ≡ true)
    (h : i < length (records_of b)) (s : Walk b rows last i)
    (at : c ≡ circuit (records_of b) i)
    (test : NextHolds rows after (circuit_fits b.n b.w c && serial_fits last b.grants c.serial) c follows) where
  abbrev cs : List Circuit
  cs = records_of b

  -- the circuits before are on n nodes, so that a shared link of the 256 is one of the n
  ends : (n : ℕ) → b.n ≤ n → (j : ℕ) → j < length (take i cs)
      → ((circuit (take i cs) j).a < (circuit (take i cs) j).b) × ((circuit (take i cs) j).b < n)
  ends n most j l =
      let few : j < i = omega (arith, length-take-le i cs (omega arith)) in
      let f : Following b j = following b j (each_follows b i s.fits j few) in
      rw (earlier b i j few) (f.ordered, omega (arith, f.nodes))

  same_held : c.a < c.b → c.b < b.n
      → held_on_way 256 (take i cs) c.way (ends_of c) c.colour ≡ held_on_way b.n (take i cs) c.way (ends_of c) c.colour
  same_held h k =
      let most = ring_within b.n b.w ring in
      sym (conflict_held 256 (take i cs) (ends 256 most.0) c.way (ends_of c) c.colour h (omega arith))
      ∙ conflict_held b.n (take i cs) (ends b.n (omega arith)) c.way (ends_of c) c.colour h k

  found : follows ≡ may_follow b (take i cs) last c
  unfolding may_follow held_on_way
  found = elim (is (circuit_fits b.n b.w c && serial_fits last b.grants c.serial)) [
    | yes e ↦
        let limits = ring_within b.n b.w ring in
        let p = fits_placed b.n b.w c (serial_fits last b.grants c.serial) limits.0 limits.1 e in
        let free : follows ≡ not (held_on_way 256 (take i cs) c.way (ends_of c) c.colour) =
        holding_free rows after c.way (ends_of c) c.colour follows (test.holding e) (λ colour link. held_in (take i cs) link colour)
        s.holding p.colours in
        cc (free, same_held p.ordered (fits_node b.n b.w c (serial_fits last b.grants c.serial) e))
    | no e ↦ cc (test.refused e)
  ]

  found_here : follows ≡ may_follow b (take i cs) (last_serial cs i) (circuit cs i)
  found_here = found ∙ ap (λ (k : ℕ). may_follow b (take i cs) k c) s.serial
      ∙ ap (λ (x : Circuit). may_follow b (take i cs) (last_serial cs i) x) at

  fitting : follows ≡ true → (circuit_fits b.n b.w c && serial_fits last b.grants c.serial) ≡ true
  fitting e = elim (is (circuit_fits b.n b.w c && serial_fits last b.grants c.serial)) [
    | yes f ↦ f
    | no f ↦ contrary e (test.refused f)
  ]

  pub walk_turn : follows ≡ true → Walk b after c.serial (i + 1)
  unfolding may_follow holds
  walk_turn e = record {
    fits = ap (circuits_fit b) (add-one i) ∙ true_and _ _ s.fits (sym found_here ∙ e);
    serial = ap (λ (x : Circuit). x.serial) at ∙ ap (last_serial cs) (sym (add-one i));
    holding = holding_more rows after c.way (ends_of c) c.colour follows (test.holding (fitting e))
        (λ colour link. held_in (take i cs) link colour) (λ colour link. held_in (take (i + 1) cs) link colour) s.holding
        (λ colour link. held_next cs i link colour h ∙ cc);
  }

  pub walk_stop : follows ≡ false → false ≡ circuits_fit b (length cs)
  walk_stop e = sym (never (circuits_fit b (length cs)) (λ f. contrary (found_here ∙ each_follows b (length cs) f i h) e))

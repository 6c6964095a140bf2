-- How orders stand by the places of their records, and what a grant, a removal and a confirmation make of it: each changes it for one
-- order.
use Prim.Native.Nat.{ℕ, zero, suc, ◌+◌, ◌≤◌, ◌<◌}
use mathlib.Core.Path.{◌≡◌, refl, sym, ◌∙◌, ap}
use mathlib.Core.Bool.{Bool, true, false, cond, ◌||◌}
use mathlib.Core.List.{List, [], ◌∷◌, ◌++◌}
use native.Mathlib.Omega.{arith}
use native.Mathlib.Numerals.{add-one}
use lib.Dec.{eqb, ltb}
use lib.ListN.{length, take, drop, set}
use lib.Seq.{lt-length-set, get_or-set_same}
use borrow.Author.Tests.{eqb-true, eq-eqb, ne_eqb, lt-ltb, le-ltb}
use Rattle.ring.proofs.Cases.{compare, less, not_less, impossible}
use Rattle.book.specs.declared.circuits.RecordState.{RecordState}
use Rattle.book.specs.declared.circuits.RecordState.TheVariants.{Live, Pending}
use Rattle.book.specs.declared.circuits.Circuit.{Circuit}
use Rattle.book.specs.declared.books.Book.{Book}
use Rattle.book.specs.Circuits.{vacant, as_pending, circuit}
use Rattle.book.specs.Books.{records_of, ValidCircuits}
use Rattle.book.specs.Orders.{never_given}
use Rattle.book.specs.Confirmations.{without}
use Rattle.book.proofs.States.{as_granted, pending_alike, alike_valid}
use Rattle.book.proofs.CircuitLists.{all_without}
use Rattle.book.proofs.Standings.{Standing, Unknown, IsLive, IsPending, Gone, stands_as, standing_in, standing, standing_of}

-- ---- a record at its place

-- the first record of the serial is the one
first_stands : (cs : List Circuit) (s i : ℕ) → i < length cs → (circuit cs i).serial ≡ s
    → ((j : ℕ) → j < i → (circuit cs j).serial ≡ s → ⊥) → standing_in cs s ≡ stands_as (circuit cs i).state (circuit cs i)
first_stands [] s i h e f = absurd (omega arith)
first_stands (x ∷ cs) s zero h e f = ap (λ (t : Bool). cond t (stands_as x.state x) (standing_in cs s)) (eq-eqb x.serial s e)
first_stands (x ∷ cs) s (suc i) h e f =
    ap (λ (t : Bool). cond t (stands_as x.state x) (standing_in cs s)) (ne_eqb x.serial s (f 0 (omega arith)))
    ∙ first_stands cs s i (omega arith) e (λ j l. f (suc j) (omega arith))

none_stands : (cs : List Circuit) (s : ℕ) → ((i : ℕ) → i < length cs → (circuit cs i).serial ≡ s → ⊥) → standing_in cs s ≡ Gone
none_stands [] s f = refl
none_stands (x ∷ cs) s f =
    ap (λ (t : Bool). cond t (stands_as x.state x) (standing_in cs s)) (ne_eqb x.serial s (f 0 (omega arith)))
    ∙ none_stands cs s (λ i l. f (suc i) (omega arith))

-- the place of an order that is live or pending as this circuit
pub data Stands (t : Standing) (c : Circuit) : Type 0 where
  as_live : t ≡ IsLive c → Stands t c
  as_pending_lem : t ≡ IsPending c → Stands t c

pub record StandsAt (cs : List Circuit) (s : ℕ) (c : Circuit) : Type 0 where
  pub place : ℕ
  pub below : place < length cs
  pub there : as_granted (circuit cs place) ≡ as_granted c
  pub serial : (circuit cs place).serial ≡ s

same_circuit : (t : RecordState) (x c : Circuit) → Stands (stands_as t x) c → as_granted x ≡ as_granted c
same_circuit Live x c (as_live e) = let q : x ≡ c = cc in ap as_granted q
same_circuit Live x c (as_pending_lem e) = impossible (cc)
same_circuit Pending x c (as_live e) = impossible (cc)
same_circuit Pending x c (as_pending_lem e) = let q : as_granted x ≡ c = cc in ap as_granted q

none_standing : {A : Type 0} (c : Circuit) → Stands Gone c → A
none_standing c (as_live e) = impossible (cc)
none_standing c (as_pending_lem e) = impossible (cc)

unknown_standing : {A : Type 0} (c : Circuit) → Stands Unknown c → A
unknown_standing c (as_live e) = impossible (cc)
unknown_standing c (as_pending_lem e) = impossible (cc)

place_in : (cs : List Circuit) (s : ℕ) (c : Circuit) → Stands (standing_in cs s) c → StandsAt cs s c
place_in [] s c e = none_standing c e
place_in (x ∷ cs) s c e = go (eqb x.serial s) refl (place_in cs s c) e
  where
    go : (t : Bool) → eqb x.serial s ≡ t → (Stands (standing_in cs s) c → StandsAt cs s c)
        → Stands (cond t (stands_as x.state x) (standing_in cs s)) c → StandsAt (x ∷ cs) s c
    go true q f h = record { place = 0; below = omega arith; there = same_circuit x.state x c h; serial = eqb-true x.serial s q }
    go false q f h =
        let r = f h in
        record { place = suc r.place; below = omega (arith, r.below); there = r.there; serial = r.serial }

pub standing_place : (b : Book) (s : ℕ) (c : Circuit) → Stands (standing_of b s) c → StandsAt (records_of b) s c
standing_place b s c e = go (never_given b.grants s) e
  where
    go : (t : Bool) → Stands (cond t Unknown (standing_in (records_of b) s)) c → StandsAt (records_of b) s c
    go true h = unknown_standing c h
    go false h = place_in (records_of b) s c h

-- ---- one record more, one changed, one less

snoc_other : (cs : List Circuit) (c : Circuit) (s : ℕ) → (c.serial ≡ s → ⊥) → standing_in (cs ++ (c ∷ [])) s ≡ standing_in cs s
snoc_other [] c s d = ap (λ (t : Bool). cond t (stands_as c.state c) Gone) (ne_eqb c.serial s d)
snoc_other (x ∷ cs) c s d = ap (cond (eqb x.serial s) (stands_as x.state x)) (snoc_other cs c s d)

snoc_stands : (cs : List Circuit) (c : Circuit) (s : ℕ) → c.serial ≡ s → ((i : ℕ) → i < length cs → (circuit cs i).serial ≡ s → ⊥)
    → standing_in (cs ++ (c ∷ [])) s ≡ stands_as c.state c
snoc_stands [] c s e f = ap (λ (t : Bool). cond t (stands_as c.state c) Gone) (eq-eqb c.serial s e)
snoc_stands (x ∷ cs) c s e f =
    ap (λ (t : Bool). cond t (stands_as x.state x) (standing_in (cs ++ (c ∷ [])) s)) (ne_eqb x.serial s (f 0 (omega arith)))
    ∙ snoc_stands cs c s e (λ i l. f (suc i) (omega arith))

set_other : (cs : List Circuit) (at s : ℕ) (c : Circuit) → c.serial ≡ (circuit cs at).serial → ((circuit cs at).serial ≡ s → ⊥)
    → standing_in (set cs at c) s ≡ standing_in cs s
set_other [] at s c e d = refl
set_other (x ∷ cs) zero s c e d =
    ap (λ (t : Bool). cond t (stands_as c.state c) (standing_in cs s)) (ne_eqb c.serial s (λ q. d (sym e ∙ q)))
    ∙ ap (λ (t : Bool). cond t (stands_as x.state x) (standing_in cs s)) (sym (ne_eqb x.serial s d))
set_other (x ∷ cs) (suc at) s c e d = ap (cond (eqb x.serial s) (stands_as x.state x)) (set_other cs at s c e d)

drop_other : (cs : List Circuit) (at s : ℕ) → at < length cs → ((circuit cs at).serial ≡ s → ⊥)
    → standing_in (take at cs ++ drop (suc at) cs) s ≡ standing_in cs s
drop_other [] at s h d = absurd (omega arith)
drop_other (x ∷ cs) zero s h d = ap (λ (t : Bool). cond t (stands_as x.state x) (standing_in cs s)) (sym (ne_eqb x.serial s d))
drop_other (x ∷ cs) (suc at) s h d = ap (cond (eqb x.serial s) (stands_as x.state x)) (drop_other cs at s (omega arith) d)

without_other : (cs : List Circuit) (at s : ℕ) → at < length cs → ((circuit cs at).serial ≡ s → ⊥)
    → standing_in (without at cs) s ≡ standing_in cs s
without_other cs at s h d = ap (λ (k : ℕ). standing_in (take at cs ++ drop k cs) s) (add-one at) ∙ drop_other cs at s h d

-- a serial that a record has was given; one above the grants was not
pub given_not : (g s : ℕ) → 1 ≤ s → s ≤ g → never_given g s ≡ false
unfolding never_given
given_not g s h₁ h₂ = ap (λ (t : Bool). t || ltb g s) (ne_eqb s 0 (λ e. omega arith)) ∙ le-ltb g s h₂

pub unknown_next : (g : ℕ) (cs : List Circuit) → standing g cs (g + 1) ≡ Unknown
unfolding never_given
unknown_next g cs = simp (ne_eqb (g + 1) 0 (λ e. omega arith), lt-ltb g (g + 1) (omega arith))

module _ (n w g : ℕ) (cs : List Circuit) (v : ValidCircuits n w g cs) where
  -- two records have different serials
  one_serial : (i j : ℕ) → i < length cs → j < length cs → (circuit cs i).serial ≡ (circuit cs j).serial → (i ≡ j → ⊥) → ⊥
  one_serial i j hi hj e d =
      elim (compare i j) [
        | less l q ↦ omega (arith, v.rising i j l hj)
        | not_less l q ↦ let m : j < i = omega arith in omega (arith, v.rising j i m hi)
      ]

  -- each record stands under its serial
  pub stands_at : (i : ℕ) → i < length cs → standing g cs (circuit cs i).serial ≡ stands_as (circuit cs i).state (circuit cs i)
  stands_at i h =
      let p = v.given i h in
      ap (λ (t : Bool). cond t Unknown (standing_in cs (circuit cs i).serial)) (given_not g (circuit cs i).serial p.0 p.1)
      ∙ first_stands cs (circuit cs i).serial i h refl (λ j l e. one_serial j i (omega arith) h e (λ q. omega arith))

  pub grant_stands : (c : Circuit) → c.serial ≡ g + 1 → standing (g + 1) (cs ++ (c ∷ [])) (g + 1) ≡ stands_as c.state c
  grant_stands c e =
      ap (λ (t : Bool). cond t Unknown (standing_in (cs ++ (c ∷ [])) (g + 1))) (given_not (g + 1) (g + 1) (omega arith) (omega arith))
      ∙ snoc_stands cs c (g + 1) e (λ i h q. let p = v.given i h in omega arith)

  pub grant_others : (c : Circuit) (s : ℕ) → c.serial ≡ g + 1 → (g + 1 ≡ s → ⊥) → standing (g + 1) (cs ++ (c ∷ [])) s ≡ standing g cs s
  unfolding never_given
  grant_others c s e d =
      let same : ltb (g + 1) s ≡ ltb g s =
      elim (compare g s) [
        | less l q ↦ lt-ltb (g + 1) s (omega arith) ∙ sym (lt-ltb g s l)
        | not_less l q ↦ le-ltb (g + 1) s (omega arith) ∙ sym (le-ltb g s l)
      ]
      in
      ap (λ (t : Bool). cond (eqb s 0 || t) Unknown (standing_in (cs ++ (c ∷ [])) s)) same
      ∙ ap (cond (eqb s 0 || ltb g s) Unknown) (snoc_other cs c s (λ q. d (sym e ∙ q)))

  pub removal_others : (at s : ℕ) (c : Circuit) → c.serial ≡ (circuit cs at).serial → ((circuit cs at).serial ≡ s → ⊥)
      → standing g (set cs at c) s ≡ standing g cs s
  removal_others at s c e d = ap (cond (never_given g s) Unknown) (set_other cs at s c e d)

  pub confirmation_stands : (at : ℕ) → at < length cs → standing g (without at cs) (circuit cs at).serial ≡ Gone
  confirmation_stands at h =
      let p = v.given at h in
      ap (λ (t : Bool). cond t Unknown (standing_in (without at cs) (circuit cs at).serial))
      (given_not g (circuit cs at).serial p.0 p.1)
      ∙ none_stands (without at cs) (circuit cs at).serial
      (all_without cs at h (λ x. x.serial ≡ (circuit cs at).serial → ⊥) (λ i l d e. one_serial i at l h e d))

  pub confirmation_others : (at s : ℕ) → at < length cs → ((circuit cs at).serial ≡ s → ⊥) → standing g (without at cs) s ≡ standing g cs s
  confirmation_others at s h d = ap (cond (never_given g s) Unknown) (without_other cs at s h d)

-- the record that a removal makes pending
pub removal_stands : (n w g : ℕ) (cs : List Circuit) → ValidCircuits n w g cs → (at : ℕ) → at < length cs
    → standing g (set cs at (as_pending (circuit cs at))) (circuit cs at).serial ≡ IsPending (as_granted (circuit cs at))
removal_stands n w g cs v at h =
    let ds : List Circuit = set cs at (as_pending (circuit cs at)) in
    let there : circuit ds at ≡ as_pending (circuit cs at) = get_or-set_same cs at (as_pending (circuit cs at)) vacant h in
    ap (λ (x : Circuit). standing g ds x.serial) (sym there)
    ∙ stands_at n w g ds (alike_valid n w g cs ds (pending_alike cs at) v) at (lt-length-set cs at (as_pending (circuit cs at)) h)
    ∙ ap (λ (x : Circuit). stands_as x.state x) there

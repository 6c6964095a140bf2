-- The holder of a colour on a link is the one record, live or pending, that holds it.
use Prim.Native.Nat.{ℕ, zero, suc, ◌<◌}
use mathlib.Core.Path.{◌≡◌, refl, sym, ◌∙◌, ap}
use mathlib.Core.Bool.{Bool, true, false, cond}
use mathlib.Core.List.{List, [], ◌∷◌, map}
use native.Mathlib.Omega.{arith}
use lib.ListN.{length}
use borrow.Author.Tests.{lt-leb}
use Rattle.std.specs.Prelude.{Ok}
use Rattle.ring.proofs.Cases.{is, yes, no, compare, less, not_less, impossible}
use Rattle.book.specs.declared.circuits.Circuit.{Circuit}
use Rattle.book.specs.declared.books.Book.{Book}
use Rattle.book.specs.declared.holders.Holder.{Holder}
use Rattle.book.specs.declared.holders.Holder.TheVariants.{Free, HeldBy}
use Rattle.book.specs.Circuits.{desk, circuit, holds}
use Rattle.book.specs.Books.{records_of, Valid}
use Rattle.book.specs.Holders.{holder_in, holder_verdict, held_by}
use Rattle.book.specs.Confirmations.{without, without_circuit}
use Rattle.book.proofs.Forms.{records_form, without_form}
use Rattle.book.proofs.CircuitLists.{all_without}
use Rattle.book.proofs.States.{as_granted, Alike}

-- neither 16 nor 10
pub in_range : (b : Book) (link colour : ℕ) → link < b.n → colour < b.w → holder_verdict b link colour ≡ Ok tt
unfolding holder_verdict
in_range b link colour h k = simp (lt-leb b.n link h, lt-leb b.w colour k)

pub held_in_range : (b : Book) (link colour : ℕ) → link < b.n → colour < b.w
    → held_by b link colour ≡ Ok (holder_in desk (records_of b) link colour)
unfolding held_by
held_in_range b link colour h k = simp (in_range b link colour h k)

-- what is so of a holder
pub record HolderAt (cs : List Circuit) (link colour s : ℕ) : Type 0 where
  pub place : ℕ
  pub below : place < length cs
  pub serial : (circuit cs place).serial ≡ s
  pub holding : holds (circuit cs place) link colour ≡ true

holder_at_lem : (cs : List Circuit) (link colour s : ℕ) → holder_in desk cs link colour ≡ HeldBy s → HolderAt cs link colour s
unfolding holder_in
holder_at_lem [] link colour s e = let z : ◌≡◌ {A = ℕ} 0 1 = cc in absurd (omega arith)
holder_at_lem (c ∷ cs) link colour s e = go (holds c link colour) refl (holder_at_lem cs link colour s) e
  where
    go : (t : Bool) → holds c link colour ≡ t → (holder_in desk cs link colour ≡ HeldBy s → HolderAt cs link colour s)
        → cond t (HeldBy c.serial) (holder_in desk cs link colour) ≡ HeldBy s → HolderAt (c ∷ cs) link colour s
    go true q f h = let es : c.serial ≡ s = cc in record { place = 0; below = omega arith; serial = es; holding = q }
    go false q f h =
        let r : HolderAt cs link colour s = f h in
        let l : r.place < length cs = r.below in
        record { place = suc r.place; below = omega arith; serial = r.serial; holding = r.holding }

-- the first circuit that holds it is the answer
first_holder : (cs : List Circuit) (link colour i : ℕ) → i < length cs → holds (circuit cs i) link colour ≡ true
    → ((j : ℕ) → j < i → holds (circuit cs j) link colour ≡ false) → holder_in desk cs link colour ≡ HeldBy (circuit cs i).serial
unfolding holder_in
first_holder [] link colour i h e f = absurd (omega arith)
first_holder (c ∷ cs) link colour zero h e f = ap (λ (t : Bool). cond t (HeldBy c.serial) (holder_in desk cs link colour)) e
first_holder (c ∷ cs) link colour (suc i) h e f =
    ap (λ (t : Bool). cond t (HeldBy c.serial) (holder_in desk cs link colour)) (f 0 (omega arith))
    ∙ first_holder cs link colour i (omega arith) e (λ j l. f (suc j) (omega arith))

-- the answer is free or a serial
pub data FreeOrHeld (a : Holder) : Type 0 where
  free : a ≡ Free → FreeOrHeld a
  held : (s : ℕ) → a ≡ HeldBy s → FreeOrHeld a

pub free_or_held : (cs : List Circuit) (link colour : ℕ) → FreeOrHeld (holder_in desk cs link colour)
unfolding holder_in
free_or_held [] link colour = free refl
free_or_held (c ∷ cs) link colour = go (holds c link colour) (free_or_held cs link colour)
  where
    go : (t : Bool) → FreeOrHeld (holder_in desk cs link colour) → FreeOrHeld (cond t (HeldBy c.serial) (holder_in desk cs link colour))
    go true r = held c.serial refl
    go false r = r

-- no circuit holds it
pub none_holds : (cs : List Circuit) (link colour : ℕ) → ((i : ℕ) → i < length cs → holds (circuit cs i) link colour ≡ false)
    → holder_in desk cs link colour ≡ Free
unfolding holder_in
none_holds [] link colour f = refl
none_holds (c ∷ cs) link colour f =
    ap (λ (t : Bool). cond t (HeldBy c.serial) (holder_in desk cs link colour)) (f 0 (omega arith))
    ∙ none_holds cs link colour (λ i l. f (suc i) (omega arith))

-- records that agree but for their states have the same holders
granted_holder : (cs : List Circuit) (link colour : ℕ) → holder_in desk (map as_granted cs) link colour ≡ holder_in desk cs link colour
unfolding holder_in holds
granted_holder [] link colour = refl
granted_holder (c ∷ cs) link colour = ap (cond (holds c link colour) (HeldBy c.serial)) (granted_holder cs link colour)

pub alike_holder : (cs ds : List Circuit) → Alike ds cs → (link colour : ℕ) → holder_in desk ds link colour ≡ holder_in desk cs link colour
alike_holder cs ds e link colour =
    sym (granted_holder ds link colour) ∙ ap (λ (l : List Circuit). holder_in desk l link colour) e ∙ granted_holder cs link colour

-- the holder is a record of the serial that holds the colour on the link
module _ (b : Book) (v : Valid b) (link colour : ℕ) (hl : link < b.n) (hc : colour < b.w) where
  -- two records do not hold one colour on one link
  only_holder : (i j : ℕ) → i < length (records_of b) → j < length (records_of b) → (j ≡ i → ⊥)
      → holds (circuit (records_of b) i) link colour ≡ true → holds (circuit (records_of b) j) link colour ≡ false
  only_holder i j hi hj d e = elim (compare i j) [
    | less l q ↦ v.circuits.apart i j l hj link colour hl e
    | not_less l q ↦ elim (is (holds (circuit (records_of b) j) link colour)) [
      | yes t ↦
          let m : j < i = omega arith in
          impossible (sym e ∙ v.circuits.apart j i m hi link colour hl t)
      | no t ↦ t
    ]
  ]

  pub held_at : (s : ℕ) → held_by b link colour ≡ Ok (HeldBy s) → HolderAt (records_of b) link colour s
  held_at s e =
      let found = sym (held_in_range b link colour hl hc) ∙ e in
      let same : holder_in desk (records_of b) link colour ≡ HeldBy s = cc in
      holder_at_lem (records_of b) link colour s same

  pub at_held : (s : ℕ) → HolderAt (records_of b) link colour s → held_by b link colour ≡ Ok (HeldBy s)
  at_held s a =
      held_in_range b link colour hl hc
      ∙ ap Ok (first_holder (records_of b) link colour a.place a.below a.holding
      (λ j l. only_holder a.place j a.below (let h = a.below in omega arith) (λ q. omega arith) a.holding)
      ∙ ap HeldBy a.serial)

  -- once it is gone, nobody does
  pub gone_free : (i : ℕ) → i < length (records_of b) → holds (circuit (records_of b) i) link colour ≡ true
      → held_by (without_circuit i b) link colour ≡ Ok Free
  gone_free i h e =
      held_in_range (without_circuit i b) link colour hl hc
      ∙ ap Ok (ap (λ (d : Book). holder_in desk (records_of d) link colour) (without_form b v i h)
      ∙ ap (λ (l : List Circuit). holder_in desk l link colour) (records_form b.n b.w b.grants (without i (records_of b)))
      ∙ none_holds (without i (records_of b)) link colour
      (all_without (records_of b) i h (λ x. holds x link colour ≡ false) (λ j l d. only_holder i j h l d e)))

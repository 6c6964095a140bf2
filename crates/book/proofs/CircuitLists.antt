-- What holds of every circuit of a list, or of every two, holds after one is put behind it or taken out.
use Prim.Native.Nat.{ℕ, zero, suc, ◌+◌, ◌-◌, ◌≤◌, ◌<◌}
use mathlib.Core.Path.{◌≡◌, refl, sym, ◌∙◌, ap, subst}
use mathlib.Core.Bool.{Bool, true, false, cond, ◌||◌, true≢false}
use mathlib.Core.List.{List, [], ◌∷◌, ◌++◌}
use native.Mathlib.Omega.{arith}
use lib.Dec.{ltb}
use borrow.Author.Tests.{ltb-true, ltb-false}
use lib.ListN.{length, take, drop, length-append, get_or-append}
use lib.Seq.{get_or-append_seam, get_or-append-add, get_or-take, get_or-drop, length-take-le}
use Rattle.ring.proofs.Cases.{compare, less, not_less}
use Rattle.book.specs.declared.circuits.Circuit.{Circuit}
use Rattle.book.specs.Circuits.{vacant, circuit, some_circuit}
use Rattle.book.specs.Confirmations.{without}
use Rattle.book.proofs.Forms.{length_without}

-- one circuit more
module _ (cs : List Circuit) (c : Circuit) where
  pub snoc_length : length (cs ++ (c ∷ [])) ≡ length cs + 1
  snoc_length = length-append cs (c ∷ [])

  pub snoc_old : (i : ℕ) → i < length cs → circuit (cs ++ (c ∷ [])) i ≡ circuit cs i
  snoc_old i h = get_or-append cs (c ∷ []) vacant i h

  pub snoc_new : (i : ℕ) → i ≡ length cs → circuit (cs ++ (c ∷ [])) i ≡ c
  snoc_new i e = ap (circuit (cs ++ (c ∷ []))) e ∙ get_or-append_seam cs c [] vacant

  pub all_snoc : (P : Circuit → Type 0) → ((i : ℕ) → i < length cs → P (circuit cs i)) → P c → (i : ℕ) → i < length (cs ++ (c ∷ []))
      → P (circuit (cs ++ (c ∷ [])) i)
  all_snoc P old new i h =
      elim (compare i (length cs)) [
        | less l e ↦ subst P (sym (snoc_old i l)) (old i l)
        | not_less l e ↦ subst P (sym (snoc_new i (omega (arith, snoc_length)))) new
      ]

  pub pairs_snoc : (P : Circuit → Circuit → Type 0) → ((i j : ℕ) → i < j → j < length cs → P (circuit cs i) (circuit cs j))
      → ((i : ℕ) → i < length cs → P (circuit cs i) c)
      → (i j : ℕ) → i < j → j < length (cs ++ (c ∷ [])) → P (circuit (cs ++ (c ∷ [])) i) (circuit (cs ++ (c ∷ [])) j)
  pairs_snoc P old new i j k h =
      elim (compare j (length cs)) [
        | less l e ↦ subst (λ (x : Circuit). P x (circuit (cs ++ (c ∷ [])) j)) (sym (snoc_old i (omega arith)))
            (subst (P (circuit cs i)) (sym (snoc_old j l)) (old i j k l))
        | not_less l e ↦
            let m : i < length cs = omega (arith, snoc_length) in
            subst (λ (x : Circuit). P x (circuit (cs ++ (c ∷ [])) j)) (sym (snoc_old i m))
            (subst (P (circuit cs i)) (sym (snoc_new j (omega (arith, snoc_length)))) (new i m))
      ]

-- the place, before the removal of place `at`, of what stands at place k after it
skip : ℕ → ℕ → ℕ
skip at k = cond (ltb k at) k (k + 1)

skip_rises : (at i j : ℕ) → i < j → skip at i < skip at j
unfolding skip
skip_rises at i j h = go (ltb i at) (ltb j at) refl refl
  where
    go : (s t : Bool) → ltb i at ≡ s → ltb j at ≡ t → cond s i (i + 1) < cond t j (j + 1)
    go true true p q = h
    go true false p q = omega arith
    go false true p q = omega (arith, ltb-false i at p, ltb-true j at q)
    go false false p q = omega arith

skip_below : (at k n : ℕ) → k < n - 1 → skip at k < n
unfolding skip
skip_below at k n h = go (ltb k at)
  where
    go : (s : Bool) → cond s k (k + 1) < n
    go true = omega arith
    go false = omega arith

skip_other : (at k : ℕ) → skip at k ≡ at → ⊥
unfolding skip
skip_other at k = go (ltb k at) refl
  where
    go : (s : Bool) → ltb k at ≡ s → cond s k (k + 1) ≡ at → ⊥
    go true p e = omega (arith, ltb-true k at p)
    go false p e = omega (arith, ltb-false k at p)

-- one circuit less
module _ (cs : List Circuit) (at : ℕ) (l : at < length cs) where
  without_at : (k : ℕ) → k < length cs - 1 → circuit (without at cs) k ≡ circuit cs (skip at k)
  unfolding skip
  without_at k h = go (ltb k at) refl
    where
      go : (s : Bool) → ltb k at ≡ s → circuit (without at cs) k ≡ circuit cs (cond s k (k + 1))
      go true p =
          let m : k < at = ltb-true k at p in
          let q : k < length (take at cs) = omega (arith, length-take-le at cs (omega arith)) in
          get_or-append (take at cs) (drop (at + 1) cs) vacant k q ∙ get_or-take at cs k vacant m
      go false p =
          let m : at ≤ k = ltb-false k at p in
          let q : length (take at cs) ≡ at = length-take-le at cs (omega arith) in
          let e : k ≡ length (take at cs) + (k - at) = omega arith in
          let e₂ : at + 1 + (k - at) ≡ k + 1 = omega arith in
          ap (circuit (without at cs)) e ∙ get_or-append-add (take at cs) (drop (at + 1) cs) (k - at) vacant
          ∙ get_or-drop (at + 1) cs (k - at) vacant ∙ ap (circuit cs) e₂

  pub all_without : (P : Circuit → Type 0) → ((i : ℕ) → i < length cs → (i ≡ at → ⊥) → P (circuit cs i)) → (k : ℕ)
      → k < length (without at cs) → P (circuit (without at cs) k)
  all_without P old k h =
      let m : k < length cs - 1 = omega (arith, length_without at cs l) in
      subst P (sym (without_at k m)) (old (skip at k) (skip_below at k (length cs) m) (skip_other at k))

  pub pairs_without : (P : Circuit → Circuit → Type 0) → ((i j : ℕ) → i < j → j < length cs → P (circuit cs i) (circuit cs j))
      → (i j : ℕ) → i < j → j < length (without at cs) → P (circuit (without at cs) i) (circuit (without at cs) j)
  pairs_without P old i j k h =
      let m : j < length cs - 1 = omega (arith, length_without at cs l) in
      subst (λ (x : Circuit). P x (circuit (without at cs) j)) (sym (without_at i (omega arith)))
      (subst (P (circuit cs (skip at i))) (sym (without_at j m))
      (old (skip at i) (skip at j) (skip_rises at i j k) (skip_below at j (length cs) m)))

-- some circuit of the list has a property exactly if there is one at a place
pub record Place (cs : List Circuit) (p : Circuit → Bool) : Type 0 where
  pub place : ℕ
  pub below : place < length cs
  pub has : p (circuit cs place) ≡ true

pub some_place : (cs : List Circuit) (p : Circuit → Bool) → some_circuit cs p ≡ true → Place cs p
unfolding some_circuit
some_place [] p e = absurd (true≢false (sym e))
some_place (c ∷ cs) p e = go (p c) refl (some_place cs p) e
  where
    go : (t : Bool) → p c ≡ t → (some_circuit cs p ≡ true → Place cs p) → (t || some_circuit cs p) ≡ true → Place (c ∷ cs) p
    go true q f h = record { place = 0; below = omega arith; has = q }
    go false q f h =
        let r : Place cs p = f h in
        let l : r.place < length cs = r.below in
        record { place = suc r.place; below = omega arith; has = r.has }

pub place_some : (cs : List Circuit) (p : Circuit → Bool) (i : ℕ) → i < length cs → p (circuit cs i) ≡ true → some_circuit cs p ≡ true
unfolding some_circuit
place_some [] p i h e = absurd (omega arith)
place_some (c ∷ cs) p zero h e = rw e
place_some (c ∷ cs) p (suc i) h e = go (p c) (place_some cs p i (omega arith) e)
  where
    go : (t : Bool) → some_circuit cs p ≡ true → (t || some_circuit cs p) ≡ true
    go true q = refl
    go false q = q

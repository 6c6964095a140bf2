-- Writes into a buffer, one after the other.
use Prim.Native.Nat.{ℕ, suc, ◌+◌, ◌≤◌, ◌<◌}
use mathlib.Core.Path.{◌≡◌, refl, sym, ◌∙◌, ap}
use mathlib.Core.Bool.{Bool, true, false, ◌&&◌}
use mathlib.Core.List.{List, [], ◌∷◌, ◌++◌, append_assoc}
use native.Mathlib.Omega.{arith}
use native.Mathlib.Numerals.{add-one, unary_clauses}
use lib.ListN.{length, get_or, take, drop, set, length-append, length-take, length-drop, take-append-drop, drop_of_length-le}
use lib.Seq.{take_at, drop_at, drop-drop, set_split, take-suc, length-take-le}
use borrow.Author.Tests.{eq-eqb, ne_eqb, eqb-true}
use lib.Dec.{eqb}
use Rattle.ring.specs.Buffers.{written, same_bytes}
use Rattle.ring.proofs.ListLaws.{drop_next}

-- a write within the buffer keeps its length
pub written_length : (out : List ℕ) (at : ℕ) (bytes : List ℕ) → at + length bytes ≤ length out → length (written out at bytes) ≡ length out
unfolding written
written_length out at bytes h = simp (length-append, length-take, length-drop) (omega arith)

-- two writes, the second behind the first, are one
pub written_twice : (out : List ℕ) (at : ℕ) (a b : List ℕ) → at + length a + length b ≤ length out
    → written (written out at a) (at + length a) b ≡ written out at (a ++ b)
unfolding written
written_twice out at a b h =
    let front = take at out ++ a in
    let rest = drop (at + length a) out in
    let size : length front ≡ at + length a = simp (length-append, length-take) (omega arith) in
    let first : take (at + length a) (front ++ rest) ≡ front = take_at front rest (at + length a) size in
    let behind : drop (at + length a + length b) (front ++ rest) ≡ drop (at + length a + length b) out =
    sym (drop-drop (length b) (at + length a) (front ++ rest))
    ∙ (ap (drop (length b)) (drop_at front rest (at + length a) size) ∙ drop-drop (length b) (at + length a) out) in
    let both : at + length (a ++ b) ≡ at + length a + length b = rw length-append (omega arith) in
    rw (first, behind, both) (simp append_assoc)

-- a byte stored is a write
pub written_byte : (out : List ℕ) (at b : ℕ) → at < length out → set out at b ≡ written out at (b ∷ [])
unfolding written
written_byte out at b h = rw (add-one) (set_split out at b h ∙ simp append_assoc)

-- nothing written changes nothing, and one byte more of a string is one store more
pub written_none : (out : List ℕ) (at : ℕ) → out ≡ written out at []
unfolding written
written_none out at = simp (append_assoc, unary_clauses) (sym (take-append-drop at out))

pub written_turn : (out : List ℕ) (at : ℕ) (bytes : List ℕ) (i : ℕ) → at + length bytes ≤ length out → i < length bytes
    → set (written out at (take i bytes)) (at + i) (get_or bytes i 0) ≡ written out at (take (i + 1) bytes)
written_turn out at bytes i h l =
    let size : length (take i bytes) ≡ i = length-take-le i bytes (omega arith) in
    let inside : at + length (take i bytes) ≤ length out = omega arith in
    let same = written_length out at (take i bytes) inside in
    let last = get_or bytes i 0 ∷ [] in
    let next : take (i + 1) bytes ≡ take i bytes ++ last = rw add-one (take-suc bytes i 0 l) in
    let twice = written_twice out at (take i bytes) last (omega arith) in
    written_byte (written out at (take i bytes)) (at + i) (get_or bytes i 0) (omega arith)
    ∙ (ap (λ (k : ℕ). written (written out at (take i bytes)) (at + k) last) (sym size) ∙ (twice ∙ ap (written out at) (sym next)))

-- the bytes are the same exactly if the lists are equal
pub same_lengths : (xs ys : List ℕ) → (length xs ≡ length ys → ⊥) → false ≡ same_bytes xs ys
same_lengths [] [] h = absurd (h refl)
same_lengths [] (y ∷ ys) h = refl
same_lengths (x ∷ xs) [] h = refl
same_lengths (x ∷ xs) (y ∷ ys) h = go (eqb x y) (same_lengths xs ys (λ e. h (ap suc e)))
  where
    go : (t : Bool) → false ≡ same_bytes xs ys → false ≡ (t && same_bytes xs ys)
    go true e = e
    go false e = refl

pub same_refl : (xs : List ℕ) → same_bytes xs xs ≡ true
same_refl [] = refl
same_refl (x ∷ xs) = ap (λ (t : Bool). t && same_bytes xs xs) (eq-eqb x x refl) ∙ same_refl xs

pub same_equal : (xs ys : List ℕ) → same_bytes xs ys ≡ true → xs ≡ ys
same_equal [] [] e = refl
same_equal [] (y ∷ ys) e = let z : ◌≡◌ {A = ℕ} 0 1 = cc in absurd (omega arith)
same_equal (x ∷ xs) [] e = let z : ◌≡◌ {A = ℕ} 0 1 = cc in absurd (omega arith)
same_equal (x ∷ xs) (y ∷ ys) e = go (eqb x y) refl (same_equal xs ys) e
  where
    go : (t : Bool) → eqb x y ≡ t → (same_bytes xs ys ≡ true → xs ≡ ys) → (t && same_bytes xs ys) ≡ true → x ∷ xs ≡ y ∷ ys
    go true p f q = ap (λ (z : ℕ). z ∷ xs) (eqb-true x y p) ∙ ap (λ (l : List ℕ). y ∷ l) (f q)
    go false p f q = let z : ◌≡◌ {A = ℕ} 0 1 = cc in absurd (omega arith)

module _ (xs ys : List ℕ) (i : ℕ) (h : i < length xs) (k : i < length ys) where
  heads : same_bytes (drop i xs) (drop i ys) ≡ (eqb (get_or xs i 0) (get_or ys i 0) && same_bytes (drop (i + 1) xs) (drop (i + 1) ys))
  heads = ap (λ (l : List ℕ). same_bytes l (drop i ys)) (drop_next xs i 0 h)
      ∙ ap (same_bytes (get_or xs i 0 ∷ drop (i + 1) xs)) (drop_next ys i 0 k)

  pub same_next : get_or xs i 0 ≡ get_or ys i 0 → same_bytes (drop i xs) (drop i ys) ≡ same_bytes (drop (i + 1) xs) (drop (i + 1) ys)
  same_next e = heads ∙ ap (λ (t : Bool). t && same_bytes (drop (i + 1) xs) (drop (i + 1) ys)) (eq-eqb (get_or xs i 0) (get_or ys i 0) e)

  pub same_differ : (get_or xs i 0 ≡ get_or ys i 0 → ⊥) → same_bytes (drop i xs) (drop i ys) ≡ false
  same_differ e = heads ∙ ap (λ (t : Bool). t && same_bytes (drop (i + 1) xs) (drop (i + 1) ys)) (ne_eqb (get_or xs i 0) (get_or ys i 0) e)

pub same_ended : (xs ys : List ℕ) (i : ℕ) → length xs ≤ i → length ys ≤ i → same_bytes (drop i xs) (drop i ys) ≡ true
same_ended xs ys i h k = ap (λ (l : List ℕ). same_bytes l (drop i ys)) (drop_of_length-le xs h) ∙ ap (same_bytes []) (drop_of_length-le ys k)

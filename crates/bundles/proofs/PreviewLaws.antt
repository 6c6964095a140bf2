-- A preview says what the grants of its lines say one after another.
use Prim.Native.Nat.{ℕ, zero, suc, ◌+◌, ◌-◌, ◌≤◌, ◌<◌}
use mathlib.Core.Path.{◌≡◌, refl, sym, ◌∙◌, ap, subst}
use mathlib.Core.Bool.{Bool, true, false, ◌||◌}
use mathlib.Core.List.{List, [], ◌∷◌, ◌++◌}
use mathlib.Core.Logic.{◌⊎◌, inl, inr}
use native.Mathlib.Omega.{arith}
use lib.Dec.{eqb, ltb}
use lib.ListN.{length, take, get_or, replicate, get_or-append}
use borrow.Author.Tests.{lt-ltb, le-ltb, ltb-false, eq-eqb, ne_eqb}
use Rattle.std.specs.Prelude.{Some, None, Result, Ok, Err}
use Rattle.ring.specs.declared.refusals.Refusal.{Refusal}
use Rattle.ring.specs.declared.refusals.Refusal.TheVariants.{LineCount}
use Rattle.ring.specs.Refusals.{Verdict}
use Rattle.ring.proofs.AdmissionLaws.{refuse_allowed}
use Rattle.ring.proofs.Cases.{less, not_less, compare, impossible}
use Rattle.book.specs.declared.books.Book.{Book}
use Rattle.book.specs.declared.grants.Line.{Line}
use Rattle.bundles.specs.declared.previews.Previewed.{Previewed}
use Rattle.bundles.specs.Previews.{line, granted_line, after_lines, serial_then, serials_for, stop_then, stop_from, entries, size_verdict}
use Rattle.bundles.specs.Previews.{preview_unless, previewed, PreviewPromise, Says, PreviewSays}

-- each line that has a serial is answered by it
serial_at : (b : Book) (ls : List Line) (i : ℕ) → i < length (serials_for b ls)
    → (granted_line (after_lines b (take i ls)) (line ls i)).answer ≡ Ok (get_or (serials_for b ls) i 0)
serial_at b [] i h = absurd (omega arith)
serial_at b (l ∷ ls) i h = go (granted_line b l).answer refl (serial_at (granted_line b l).book ls) i h
  where
    next : Book
    next = (granted_line b l).book

    go : (a : Result ℕ Refusal) → (granted_line b l).answer ≡ a
        → ((i : ℕ) → i < length (serials_for next ls)
        → (granted_line (after_lines next (take i ls)) (line ls i)).answer ≡ Ok (get_or (serials_for next ls) i 0))
        → (i : ℕ) → i < length (serial_then a (serials_for next ls))
        → (granted_line (after_lines b (take i (l ∷ ls))) (line (l ∷ ls) i)).answer
        ≡ Ok (get_or (serial_then a (serials_for next ls)) i 0)
    go (Ok s) e later zero h = e
    go (Ok s) e later (suc i) h = later i (omega arith)
    go (Err r) e later i h = absurd (omega arith)

-- the line that is named, with the lines numbered from k on, behind so many serials
record StoppedAt (k : ℕ) (b : Book) (ls : List Line) (count i : ℕ) (r : Refusal) : Type 0 where
  pub number : i ≡ k + count
  pub within : count < length ls
  pub refused : (granted_line (after_lines b (take count ls)) (line ls count)).answer ≡ Err r

stopped_at : (k : ℕ) (b : Book) (ls : List Line) (i : ℕ) (r : Refusal) → stop_from k b ls ≡ Some (i, r)
    → StoppedAt k b ls (length (serials_for b ls)) i r
stopped_at k b [] i r e = let z : ◌≡◌ {A = ℕ} 0 1 = cc in absurd (omega arith)
stopped_at k b (l ∷ ls) i r e = go (granted_line b l).answer refl (stopped_at (k + 1) (granted_line b l).book ls i r) e
  where
    next : Book
    next = (granted_line b l).book

    go : (a : Result ℕ Refusal) → (granted_line b l).answer ≡ a
        → (stop_from (k + 1) next ls ≡ Some (i, r) → StoppedAt (k + 1) next ls (length (serials_for next ls)) i r)
        → stop_then k a (stop_from (k + 1) next ls) ≡ Some (i, r)
        → StoppedAt k b (l ∷ ls) (length (serial_then a (serials_for next ls))) i r
    go (Ok s) q later f =
        let t = later f in
        record { number = omega (arith, t.number); within = omega (arith, t.within); refused = t.refused }
    go (Err p) q later f =
        let both : ◌≡◌ {A = ℕ × Refusal} (k, p) (i, r) = cc in
        let n : i ≡ k = sym (ap (λ (x : ℕ × Refusal). x.0) both) in
        let same : p ≡ r = ap (λ (x : ℕ × Refusal). x.1) both in
        record { number = omega arith; within = omega arith; refused = q ∙ ap Err same }

all_have : (k : ℕ) (b : Book) (ls : List Line) → stop_from k b ls ≡ None → length (serials_for b ls) ≡ length ls
all_have k b [] e = refl
all_have k b (l ∷ ls) e = go (granted_line b l).answer (all_have (k + 1) (granted_line b l).book ls) e
  where
    next : Book
    next = (granted_line b l).book

    go : (a : Result ℕ Refusal) → (stop_from (k + 1) next ls ≡ None → length (serials_for next ls) ≡ length ls)
        → stop_then k a (stop_from (k + 1) next ls) ≡ None → length (serial_then a (serials_for next ls)) ≡ suc (length ls)
    go (Ok s) later f = ap suc (later f)
    go (Err q) later f = let z : ◌≡◌ {A = ℕ} 0 1 = cc in absurd (omega arith)

-- zeros behind the serials
zero_at : (n i : ℕ) → ◌≡◌ {A = ℕ} (get_or (replicate n 0) i 0) 0
zero_at zero i = refl
zero_at (suc n) zero = refl
zero_at (suc n) (suc i) = zero_at n i

behind : (xs : List ℕ) (n i : ℕ) → length xs ≤ i → get_or (xs ++ replicate n 0) i 0 ≡ 0
behind [] n i h = zero_at n i
behind (x ∷ xs) n zero h = absurd (omega arith)
behind (x ∷ xs) n (suc i) h = behind xs n i (omega arith)

-- no line, or too many; or a number that is allowed
pub size_refused : (count : ℕ) → (count ≡ 0) ⊎ (16 < count) → size_verdict count ≡ Err LineCount
unfolding size_verdict
size_refused count (inl h) = simp (eq-eqb count 0 h)
size_refused count (inr h) = simp (ne_eqb count 0 (λ e. omega arith), lt-ltb 16 count h)

size_allowed : (count : ℕ) → 1 ≤ count → count ≤ 16 → size_verdict count ≡ Ok tt
unfolding size_verdict
size_allowed count h k = simp (ne_eqb count 0 (λ e. omega arith), le-ltb 16 count k)

-- a number that is allowed is 1 to 16
pub size_within : (count : ℕ) → size_verdict count ≡ Ok tt → (1 ≤ count) × (count ≤ 16)
unfolding size_verdict
size_within count e =
    let none = refuse_allowed (eqb count 0 || ltb 16 count) LineCount e in
    let p = neither (eqb count 0) (ltb 16 count) none in
    let h = ltb-false 16 count p.1 in
    elim (compare 0 count) [
      | less k q ↦ (k, h)
      | not_less k q ↦ impossible (sym (eq-eqb count 0 (omega arith)) ∙ p.0)
    ]
  where
    neither : (s t : Bool) → (s || t) ≡ false → (s ≡ false) × (t ≡ false)
    neither false t h = (refl, h)
    neither true t h = impossible h

-- 22, whatever the lines and the book are
pub refused_by_size : (b : Book) (count : ℕ) (ls : List Line) (r : Refusal) → size_verdict count ≡ Err r
    → PreviewPromise b count ls (Err r)
unfolding previewed
refused_by_size b count ls r refused = record {
  size = λ q h. let z = sym refused ∙ h in let same : r ≡ q = cc in ap Err same;
  arguments = λ q h. let z = sym refused ∙ h in impossible (cc);
  valid = λ h. ap (λ (x : Verdict). preview_unless x b (take count ls)) (sym refused);
}

-- what the lines come to
abbrev looked_at : Book → List Line → Previewed
looked_at b ls = record { stopped = stop_from 0 b ls; count = length (serials_for b ls); serials = entries (serials_for b ls) }

says : (b : Book) (ls : List Line) → Says b ls (looked_at b ls)
says b ls = record {
  serials = λ i h. serial_at b ls i h ∙ ap Ok (sym (get_or-append (serials_for b ls) _ 0 i h));
  stop = λ i r e.
      let s = stopped_at 0 b ls i r e in
      let n : i ≡ length (serials_for b ls) = omega (arith, s.number) in (
        n,
        (
          omega (arith, s.within),
          subst (λ (j : ℕ). (granted_line (after_lines b (take j ls)) (line ls j)).answer ≡ Err r) (sym n) s.refused,
        ),
      );
  all = all_have 0 b ls;
  behind = λ i h. behind (serials_for b ls) (16 - length (serials_for b ls)) i h;
}

pub preview_says : PreviewSays
unfolding previewed
preview_says = record {
  lines = λ b count ls h k. (
    looked_at b (take count ls),
    ap (λ (v : Verdict). preview_unless v b (take count ls)) (size_allowed count h k),
    says b (take count ls),
  );
  size = λ b count ls h. ap (λ (v : Verdict). preview_unless v b (take count ls)) (size_refused count h);
}

-- Entries, five to a line, on their way into a bundle, and what a preview of it gives.
use Prim.Native.Nat.{ℕ, ◌+◌, ◌*◌, ◌/◌, ◌%◌, ◌≤◌, ◌<◌}
use mathlib.Core.Path.{◌≡◌, refl, sym, ◌∙◌, ap, subst}
use mathlib.Core.List.{List, [], ◌∷◌, ◌++◌, append-nil}
use native.Mathlib.Omega.{arith}
use lib.ListN.{length, drop, get_or, set, drop_of_length-le}
use lib.Seq.{append_snoc}
use borrow.Author.Tests.{eq-eqb, ne_eqb}
use Rattle.std.specs.Prelude.{Result}
use Rattle.ring.specs.declared.refusals.Refusal.{Refusal}
use Rattle.ring.proofs.ListLaws.{drop_next}
use Rattle.book.specs.declared.books.Book.{Book}
use Rattle.book.specs.declared.grants.Line.{Line}
use Rattle.bundles.specs.declared.bundles.Bundle.{Bundle}
use Rattle.bundles.specs.declared.previews.Previewed.{Previewed}
use Rattle.bundles.specs.Previews.{previewed, previewed_all, preview_in_numbers}
use Rattle.bundles.specs.Internal.Bundles.{Bundled}
use Rattle.bundles.proofs.BundleLaws.{bundle_says}
use Rattle.outcomes.specs.Entries.{line_at, fives, lines_of_entries}

-- whether every entry is of a line
pub lines_none : (entries : List ℕ) → (length entries % 5 ≡ 0 → ⊥) → lines_of_entries entries ≡ []
unfolding lines_of_entries
lines_none entries h = rw (ne_eqb (length entries % 5) 0 h) refl

lines_all : (entries : List ℕ) → length entries % 5 ≡ 0 → lines_of_entries entries ≡ fives entries
unfolding lines_of_entries
lines_all entries h = rw (eq-eqb (length entries % 5) 0 h) refl

fives_count : (entries : List ℕ) → length (fives entries) ≡ length entries / 5
fives_count (x ∷ y ∷ way ∷ colour ∷ crew ∷ rest) = let r = fives_count rest in omega arith
fives_count (x ∷ y ∷ way ∷ colour ∷ []) = omega arith
fives_count (x ∷ y ∷ way ∷ []) = omega arith
fives_count (x ∷ y ∷ []) = omega arith
fives_count (x ∷ []) = omega arith
fives_count [] = omega arith

-- more lines than there is room for
pub bundled_many : (entries : List ℕ) (lines : List Line) → length entries % 5 ≡ 0 → 16 < length entries / 5
    → Bundled (record { count = length entries / 5; lines = lines }) (lines_of_entries entries)
bundled_many entries lines h k =
    let n : length (lines_of_entries entries) ≡ length entries / 5 = ap length (lines_all entries h) ∙ fives_count entries in
    record { few = λ m. absurd (omega arith); many = λ m. k }

-- the five numbers of a line
five_next : (entries : List ℕ) (at : ℕ) → at + 5 ≤ length entries
    → drop at entries
    ≡ get_or entries at 0 ∷ get_or entries (at + 1) 0 ∷ get_or entries (at + 2) 0 ∷ get_or entries (at + 3) 0 ∷ get_or entries (at + 4) 0
    ∷ drop (at + 5) entries
five_next entries at h =
    let e₂ : at + 1 + 1 ≡ at + 2 = omega arith in
    let e₃ : at + 2 + 1 ≡ at + 3 = omega arith in
    let e₄ : at + 3 + 1 ≡ at + 4 = omega arith in
    let e₅ : at + 4 + 1 ≡ at + 5 = omega arith in
    rw (
      drop_next entries at 0 (omega arith),
      drop_next entries (at + 1) 0 (omega arith),
      e₂,
      drop_next entries (at + 2) 0 (omega arith),
      e₃,
      drop_next entries (at + 3) 0 (omega arith),
      e₄,
      drop_next entries (at + 4) 0 (omega arith),
      e₅,
    )
    refl

-- the lines before i are in the bundle
pub record Filling (entries : List ℕ) (i : ℕ) (bundle : Bundle) : Type 0 where
  pub before : List Line
  pub has : Bundled bundle before
  pub same : before ++ fives (drop (5 * i) entries) ≡ fives entries

pub filling_begins : (entries : List ℕ) {bundle : Bundle} → Bundled bundle [] → Filling entries 0 bundle
filling_begins entries b = record { before = []; has = b; same = refl }

module _ (entries : List ℕ) (i : ℕ) {bundle : Bundle} (f : Filling entries i bundle) where
  pub filling_goes_on : 5 * i + 5 ≤ length entries → {more : Bundle} {l : Line} → l ≡ line_at entries (5 * i)
      → ((ls : List Line) → Bundled bundle ls → Bundled more (ls ++ (l ∷ []))) → Filling entries (i + 1) more
  filling_goes_on h {more} {l} e b = record {
    before = f.before ++ (l ∷ []);
    has = b f.before f.has;
    same =
        let at : 5 * (i + 1) ≡ 5 * i + 5 = omega arith in
        append_snoc f.before l (fives (drop (5 * (i + 1)) entries))
        ∙ (ap (λ (k : ℕ). f.before ++ (l ∷ fives (drop k entries))) at
        ∙ (ap (λ (x : Line). f.before ++ (x ∷ fives (drop (5 * i + 5) entries))) e
        ∙ (ap (λ (xs : List ℕ). f.before ++ fives xs) (sym (five_next entries (5 * i) h)) ∙ f.same)));
  }

  pub filling_ends : length entries % 5 ≡ 0 → length entries ≤ 5 * i → Bundled bundle (lines_of_entries entries)
  filling_ends h k =
      subst (Bundled bundle)
      (sym (append-nil f.before)
      ∙ (ap (λ (xs : List ℕ). f.before ++ fives xs) (sym (drop_of_length-le entries k)) ∙ (f.same ∙ sym (lines_all entries h))))
      f.has

-- the numbers of a preview go by its lines
pub by_preview : (b : Book) (entries : List ℕ) (bundle : Bundle) {p : Result Previewed Refusal}
    → p ≡ previewed b bundle.count bundle.lines → Bundled bundle (lines_of_entries entries)
    → preview_in_numbers p ≡ preview_in_numbers (previewed_all b (lines_of_entries entries))
by_preview b entries bundle e has = ap preview_in_numbers (e ∙ bundle_says b bundle (lines_of_entries entries) has)

-- The lines of a bundle, and the preview of a bundle that has them.
use Prim.Native.Nat.{ℕ, ◌≤◌}
use mathlib.Core.Path.{◌≡◌, sym, ◌∙◌, ap}
use mathlib.Core.List.{List}
use mathlib.Core.Logic.{inr}
use native.Mathlib.Omega.{arith}
use lib.ListN.{length, take}
use lib.Seq.{take-length}
use Rattle.ring.specs.Refusals.{Verdict}
use Rattle.ring.proofs.Cases.{less, not_less, compare}
use Rattle.book.specs.declared.books.Book.{Book}
use Rattle.book.specs.declared.grants.Line.{Line}
use Rattle.bundles.specs.declared.bundles.Bundle.{Bundle}
use Rattle.bundles.specs.Previews.{size_verdict, preview_unless, previewed, previewed_all}
use Rattle.bundles.specs.Internal.Bundles.{Bundled}
use Rattle.bundles.proofs.PreviewLaws.{size_refused}

-- whether there are lines
module _ (bundle : Bundle) (ls : List Line) (has : Bundled bundle ls) where
  pub no_lines : bundle.count ≡ 0 → length ls ≡ 0
  no_lines h = elim (compare 16 (length ls)) [
    | less k q ↦ let crowded = has.many k in absurd (omega arith)
    | not_less k q ↦ sym (has.few k).0 ∙ h
  ]

  pub some_lines : (bundle.count ≡ 0 → ⊥) → 1 ≤ length ls
  some_lines h = elim (compare 0 (length ls)) [
    | less k q ↦ k
    | not_less k q ↦ let p = has.few (omega arith) in absurd (h (omega (arith, p.0)))
  ]

-- what is said of a bundle is said of its lines
pub bundle_says : (b : Book) (bundle : Bundle) (ls : List Line) → Bundled bundle ls
    → previewed b bundle.count bundle.lines ≡ previewed_all b ls
unfolding previewed
bundle_says b bundle ls has = elim (compare 16 (length ls)) [
  | less k q ↦
      ap (λ (v : Verdict). preview_unless v b (take bundle.count bundle.lines)) (size_refused bundle.count (inr (has.many k)))
      ∙ sym (ap (λ (v : Verdict). preview_unless v b (take (length ls) ls)) (size_refused (length ls) (inr k)))
  | not_less k q ↦ let p = has.few k in
      ap (λ (n : ℕ). preview_unless (size_verdict n) b (take n bundle.lines)) p.0
      ∙ ap (preview_unless (size_verdict (length ls)) b) (p.1 ∙ sym (take-length ls))
]

-- The lines of a bundle, one behind the other.
use Prim.Native.Nat.{ℕ, suc, ◌-◌, ◌<◌}
use mathlib.Core.Path.{◌≡◌, refl, sym, ◌∙◌, ap}
use mathlib.Core.Bool.{Bool, true, false}
use mathlib.Core.List.{List, [], ◌∷◌, ◌++◌}
use native.Mathlib.Omega.{arith}
use Rattle.std.specs.Prelude.{Some, None, IsTrue, ◌↔◌}
use Rattle.std.specs.Bool.{then_some}
use Rattle.texts.specs.Fields.{line_feed, ended}
use Rattle.book.specs.declared.grants.Line.{Line}
use Rattle.bundles.specs.declared.bundles.Bundle.{Bundle}
use Rattle.bundles.specs.Internal.Bundles.{Bundled}
use Rattle.book_lines.specs.Lines.{comma, asked_of, behind_comma, lines_from, bundle_of}
use Rattle.book_lines.specs.Internal.Asking.{asked_read, BundledIf}

-- the lines before the rest of a text are in the bundle, and so many more may come
pub record Reading (text rest : List ℕ) (left : ℕ) (bundle : Bundle) : Type 0 where
  pub before : List Line
  pub has : Bundled bundle before
  pub same : lines_from left before rest ≡ bundle_of text

pub reading_begins : (text : List ℕ) {rest : List ℕ} {bundle : Bundle} → rest ≡ text → Bundled bundle [] → Reading text rest 128 bundle
unfolding bundle_of
reading_begins text e b = record { before = []; has = b; same = ap (lines_from 128 []) e }

module _ {text rest : List ℕ} {left : ℕ} {bundle : Bundle} (r : Reading text rest left bundle) where
  pub reading_out : left ≡ 0 → BundledIf None (bundle_of text)
  reading_out e = rw (← r.same, e) tt

  -- what comes of a turn
  turn : {next : ℕ} → left ≡ suc next → lines_from (suc next) r.before rest ≡ bundle_of text
  turn more = sym (ap (λ (k : ℕ). lines_from k r.before rest) more) ∙ r.same

  one_more : 0 < left → left ≡ suc (left - 1)
  one_more h = omega arith

  pub reading_ended : {l : Line} {behind : List ℕ} {longer : Bundle} (b : Bool) → 0 < left → asked_read (Some l) behind ≡ asked_of line_feed rest
      → (IsTrue b ↔ (behind ≡ [])) → ((ls : List Line) → Bundled bundle ls → Bundled longer (ls ++ (l ∷ [])))
      → BundledIf (then_some b longer) (bundle_of text)
  reading_ended {l} {behind} {longer} b more e h w = rw (← turn (one_more more), ← e) (go behind b h)
    where
      go : (behind : List ℕ) (b : Bool) → (IsTrue b ↔ (behind ≡ []))
          → BundledIf (then_some b longer) (ended behind (Some (r.before ++ (l ∷ []))) None)
      go [] true h = w r.before r.has
      go [] false h = let z : false ≡ true = h.1 refl in cc
      go (y ∷ rest) true h = let z : y ∷ rest ≡ [] = h.0 refl in cc
      go (y ∷ rest) false h = tt

  module _ (e : None ≡ asked_of line_feed rest) {again : List ℕ} (a : again ≡ rest) where
    pub reading_lost : 0 < left → None ≡ asked_of comma again → BundledIf None (bundle_of text)
    reading_lost more f = let g : None ≡ asked_of comma rest = f ∙ ap (asked_of comma) a in rw (← turn (one_more more), ← e, ← g) tt

    pub reading_goes_on : {next : ℕ} {l : Line} {behind to : List ℕ} {longer : Bundle} → left ≡ suc next
        → asked_read (Some l) behind ≡ asked_of comma again → to ≡ behind_comma behind
        → ((ls : List Line) → Bundled bundle ls → Bundled longer (ls ++ (l ∷ []))) → Reading text to next longer
    reading_goes_on {next} {l} {behind} {to} {longer} more f d w =
        let g : Some (l, behind) ≡ asked_of comma rest = f ∙ ap (asked_of comma) a in
        record {
          before = r.before ++ (l ∷ []);
          has = w r.before r.has;
          same = ap (lines_from next (r.before ++ (l ∷ []))) d ∙ (sym (rw (← e, ← g) refl) ∙ turn more);
        }

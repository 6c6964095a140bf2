use mathlib.Core.Path.{refl, sym, subst}
use native.Mathlib.Omega.{arith}
use Rattle.bundles.specs.Internal.Bundles.{Bundled}
use Rattle.outcomes.proofs.EntryLaws.{lines_none, bundled_many, filling_begins, filling_goes_on, filling_ends}
use Rattle.outcomes.proofs.previews.bundle_of.Goals as goal

pub returns-then-entries-ne0 : goal.returns-then-entries-ne0
returns-then-entries-ne0 c =
    let entries = c.args.entries.now in
    subst (Bundled c.blank-bundle.result) (sym (lines_none entries c.if-entries-ne0.true)) c.blank-bundle.ensures

pub returns-then-count-gt-LINES : goal.returns-then-count-gt-LINES
returns-then-count-gt-LINES c =
    let entries = c.args.entries.now in
    bundled_many entries c.blank-bundle.result.lines c.if-entries-ne0.false c.if-count-gt-LINES.true

pub loop-i-init : goal.loop-i-init
loop-i-init c = (refl, filling_begins c.args.entries.now c.blank-bundle.ensures)

pub loop-i-preserved : goal.loop-i-preserved
loop-i-preserved c = (
  c.loop-i.invariant.0,
  filling_goes_on c.args.entries.now c.loop-i.i c.loop-i.invariant.1 (omega arith) c.line_at.ensures c.push.ensures,
)

pub returns : goal.returns
returns c = filling_ends c.args.entries.now c.loop-i.i c.loop-i.invariant.1 c.if-entries-ne0.false (omega arith)

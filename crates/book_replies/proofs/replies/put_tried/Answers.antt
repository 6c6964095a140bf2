use mathlib.Core.Path.{◌∙◌, subst}
use Rattle.std.specs.Prelude.{Result}
use Rattle.ring.specs.declared.refusals.Refusal.{Refusal}
use Rattle.texts.specs.Internal.Writing.{Wrote}
use Rattle.bundles.specs.declared.previews.Previewed.{Previewed}
use Rattle.bundles.proofs.BundleLaws.{bundle_says}
use Rattle.book_replies.specs.Replies.{preview_text}
use Rattle.book_replies.proofs.replies.put_tried.Goals as goal

pub returns : goal.returns
returns c =
    let says = c.preview-tried.ensures.valid c.requires.valid
    ∙ bundle_says c.args.book.now c.bundle_in-bundle.result _ c.bundle_in-bundle.ensures in
    subst (λ (p : Result Previewed Refusal). Wrote c.args.writer.now (preview_text p) c.put_preview.new.writer) says
    c.put_preview.ensures

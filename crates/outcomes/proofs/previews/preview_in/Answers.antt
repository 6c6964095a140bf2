use Rattle.std.proofs.Common.{rules}
use Rattle.outcomes.proofs.EntryLaws.{by_preview}
use Rattle.outcomes.proofs.previews.preview_in.Goals as goal

pub returns-in-Ok : goal.returns-in-Ok
returns-in-Ok c =
    let same = by_preview c.args.book.now c.args.entries.now c.bundle_of.result (c.preview.ensures.valid c.requires) c.bundle_of.ensures in
    search (rules, same)

pub returns-in-Err : goal.returns-in-Err
returns-in-Err c =
    let same = by_preview c.args.book.now c.args.entries.now c.bundle_of.result (c.preview.ensures.valid c.requires) c.bundle_of.ensures in
    search (rules, same)

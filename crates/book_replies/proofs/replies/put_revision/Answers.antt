use Rattle.std.proofs.Common.{◌≡◌, rules}
use Rattle.texts.proofs.WritingLaws.{wrote_then}
use Rattle.book_replies.specs.Replies.{revision_text}
use Rattle.book_replies.proofs.replies.put_revision.Goals as goal

pub returns : goal.returns
unfolding revision_text
returns c =
    let same : c.from.result ≡ c.args.revision = search rules in
    rw (← same) (wrote_then c.bytes.ensures (wrote_then c.long.ensures c.byte.ensures))

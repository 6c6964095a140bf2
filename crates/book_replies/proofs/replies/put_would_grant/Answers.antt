use Rattle.std.proofs.Common.{◌≢◌, [], rules}
use Rattle.texts.proofs.WritingLaws.{wrote_then}
use Rattle.bundles.specs.Previews.{serials_of}
use Rattle.book_replies.proofs.ReplyLaws.{some_granted, grant_short}
use Rattle.book_replies.proofs.replies.put_would_grant.Goals as goal

pub returns-else-is_empty : goal.returns-else-is_empty
returns-else-is_empty c =
    let serials = serials_of c.args.preview.now in
    let some : serials ≢ [] = search rules in
    record {
      short = grant_short serials c.put_serials.ensures.few;
      wrote = rw (← some_granted serials some) (wrote_then c.bytes-else-is_empty.ensures c.put_serials.ensures.wrote);
    }

use Rattle.std.proofs.Common.{◌≤◌, ◌*◌, take, length, length-take, arith}
use Rattle.texts.proofs.WritingLaws.{wrote_then, wrote_none}
use Rattle.book_replies.specs.Replies.{serials_text}
use Rattle.book_replies.proofs.ReplyLaws.{serials_short, serials_next}
use Rattle.book_replies.proofs.replies.put_serials.Goals as goal

pub loop-serial-init : goal.loop-serial-init
loop-serial-init c = wrote_none _ (omega arith)

pub labelled-requires : goal.labelled-requires
labelled-requires c =
    let items = take c.min.result c.args.preview.now.serials in
    let done = take c.loop-serial.serial-index items in
    let sizes : length (serials_text done) ≤ 6 * length done = serials_short done in
    let count = length-take c.min.result c.args.preview.now.serials in
    let front = length-take c.loop-serial.serial-index items in
    omega (arith, c.min.ensures, c.loop-serial.invariant.follows, c.loop-serial.invariant.kept)

pub loop-serial-preserved : goal.loop-serial-preserved
loop-serial-preserved c =
    rw (serials_next (take c.min.result c.args.preview.now.serials) c.loop-serial.serial-index c.loop-serial-test.true)
    (wrote_then c.loop-serial.invariant c.labelled.ensures)

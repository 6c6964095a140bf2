use native.Mathlib.Omega.{arith}
use lib.Seq.{length-take-le}
use Rattle.texts.proofs.WritingLaws.{room_left, wrote_then}
use Rattle.book_replies.specs.Replies.{unreadable_text}
use Rattle.book_replies.proofs.replies.put_unreadable.Goals as goal

pub bytes-requires-2 : goal.bytes-requires-2
bytes-requires-2 c =
    let size = c.echo_length.ensures in
    let shown = length-take-le c.echo_length.result c.args.text.now (omega (arith, size)) in
    let first = room_left 22 98 c.bytes.ensures (omega arith) c.requires in
    omega (arith, size)

pub bytes-requires-3 : goal.bytes-requires-3
bytes-requires-3 c =
    let size = c.echo_length.ensures in
    let shown = length-take-le c.echo_length.result c.args.text.now (omega (arith, size)) in
    let first = room_left 22 98 c.bytes.ensures (omega arith) c.requires in
    let second = room_left 60 38 c.bytes-2.ensures (omega (arith, size)) first in
    omega arith

pub returns : goal.returns
unfolding unreadable_text
returns c =
    rw (← c.echo_length.ensures) (wrote_then c.bytes.ensures (wrote_then c.bytes-2.ensures c.bytes-3.ensures))

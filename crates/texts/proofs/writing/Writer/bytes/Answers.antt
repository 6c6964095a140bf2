use mathlib.Core.Path.{refl}
use native.Mathlib.Omega.{arith}
use Rattle.texts.proofs.WritingLaws.{written_part, wrote_kept}
use Rattle.texts.proofs.writing.Writer.bytes.Goals as goal

pub returns : goal.returns
returns c =
    let writer = c.args.self.now in
    let exact = written_part writer.out.now writer.at c.args.bytes.now c.requires c.copy_from_slice.ensures.after in
    record { buffer = refl; follows = refl; room = omega arith; exact = exact; kept = wrote_kept writer.out.now writer.at c.args.bytes.now c.requires exact }

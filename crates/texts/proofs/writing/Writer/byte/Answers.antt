use mathlib.Core.Path.{refl}
use native.Mathlib.Omega.{arith}
use lib.ListN.{length-set}
use Rattle.ring.proofs.BufferLaws.{written_byte}
use Rattle.texts.proofs.writing.Writer.byte.Goals as goal

pub returns : goal.returns
returns c =
    let writer = c.args.self.now in
    record {
      buffer = refl;
      follows = refl;
      room = omega arith;
      exact = written_byte writer.out.now writer.at c.args.byte (omega arith);
      kept = length-set writer.out.now _ _;
    }

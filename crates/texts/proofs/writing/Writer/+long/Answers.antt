use native.Mathlib.Omega.{arith}
use Rattle.texts.proofs.DecimalLaws.{long_some, tenth_shorter}
use Rattle.texts.proofs.WritingLaws.{wrote_digit, wrote_digits}
use Rattle.texts.proofs.writing.Writer.+long.Goals as goal
use Rattle.texts.proofs.writing.Writer.+long.Goals.{then-n-ge10, else-n-ge10}

pub long-requires : goal.long-requires
long-requires t c =
    let shorter = tenth_shorter c.args.n c.if-n-ge10.true (omega arith) in
    (omega arith, omega arith)

pub byte-requires : goal.byte-requires
byte-requires t c = elim c.if-n-ge10.branch [
  | then-n-ge10 w ↦
      let shorter = tenth_shorter c.args.n w.if-n-ge10.true (omega arith) in
      rw w.self-is (omega arith)
  | else-n-ge10 w ↦
      let some = long_some c.args.n in
      rw w.self-is (omega arith)
]

pub returns : goal.returns
returns t c = elim c.if-n-ge10.branch [
  | then-n-ge10 w ↦ wrote_digits w.if-n-ge10.true (omega arith) w.long.ensures (rw w.self-is at c.byte.ensures)
  | else-n-ge10 w ↦ wrote_digit w.if-n-ge10.false (rw w.self-is at c.byte.ensures)
]

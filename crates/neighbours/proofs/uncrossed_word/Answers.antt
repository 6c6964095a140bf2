use native.Mathlib.Omega.{arith}
use Rattle.neighbours.proofs.WordLaws.{on_uncrossed}
use Rattle.neighbours.proofs.uncrossed_word.Goals as goal

pub returns : goal.returns
returns c = λ k h.
    on_uncrossed c.args.a c.args.behind_a c.args.b c.args.behind_b k (omega arith) (omega arith) (omega arith) (omega arith)
    h

use mathlib.Core.Path.{◌≡◌, ◌∙◌}
use mathlib.Core.List.{[]}
use native.Mathlib.Omega.{arith}
use lib.ListN.{length, length-set}
use Rattle.std.proofs.Common.{rules}
use Rattle.texts.proofs.FieldLaws.{long_shorter}
use Rattle.charges_text.proofs.ReadLaws.{lengths_turn}
use Rattle.charges_text.proofs.reading.length_lines.Goals as goal

pub loop-reader-smaller : goal.loop-reader-smaller
loop-reader-smaller c =
    let shorter = long_shorter _ _ c.in_ok-buffer.ensures.same in
    omega arith

pub loop-reader-preserved : goal.loop-reader-preserved
loop-reader-preserved c =
    let here = c.loop-reader in
    let shorter = long_shorter _ _ c.in_ok-buffer.ensures.same in
    let more : here.reader ≡ [] → ⊥ = search rules in
    let turn = lengths_turn here.buffer here.reader here.count (length c.args.reader) more (omega arith) (omega arith) c.in_ok-buffer.ensures.same in
    (omega arith, simp length-set here.invariant.1, turn ∙ here.invariant.2)

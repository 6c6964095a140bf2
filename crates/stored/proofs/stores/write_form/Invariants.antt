-- The loop's invariant: the buffer begins with the first blocks, and is as it was behind them.
use Rattle.std.proofs.Common.{◌≡◌, ◌*◌, ◌++◌, drop}
use Rattle.stored.specs.Forms.{blocks}
use Rattle.stored.proofs.stores.write_form.Given as goal

abbrev pub invariant-loop-block : goal.invariant-loop-block
invariant-loop-block l = l.buffer ≡ blocks l.form l.book l.block ++ drop (512 * l.block) l.initial.buffer

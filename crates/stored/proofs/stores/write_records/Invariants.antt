-- The loop's invariant: the block begins with the first i records, and is zero behind them.
use Rattle.std.proofs.Common.{◌≡◌, ◌-◌, take}
use Rattle.stored.specs.Forms.{records_bytes, circuits_of}
use Rattle.stored.proofs.Lists.{pad}
use Rattle.stored.proofs.stores.write_records.Given as goal

abbrev pub invariant-loop-i : goal.invariant-loop-i
invariant-loop-i l = l.block ≡ pad (records_bytes l.form (take l.i (circuits_of l.form l.book (l.number - 1))))

use Rattle.std.proofs.Common.{◌≡◌, drop}
use Rattle.store_run.specs.Puts.{AreAllowed, with_puts}
use Rattle.store_run.proofs.load.load.Given as goal

abbrev pub invariant-loop-p : goal.invariant-loop-p
invariant-loop-p g l = record {
  allowed : AreAllowed l.store (drop l.p-index l.puts);
  loaded : with_puts l.store (drop l.p-index l.puts) ≡ with_puts l.initial.store l.puts;
}

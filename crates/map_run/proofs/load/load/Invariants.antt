use Rattle.std.proofs.Common.{◌≡◌, drop}
use Rattle.map_run.specs.Puts.{AreAllowed, with_puts}
use Rattle.map_run.proofs.load.load.Given as goal

abbrev pub invariant-loop-p : goal.invariant-loop-p
invariant-loop-p l = record {
  allowed : AreAllowed l.map (drop l.p-index l.puts);
  loaded : with_puts l.map (drop l.p-index l.puts) ≡ with_puts l.initial.map l.puts;
}

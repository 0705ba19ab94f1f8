use Rattle.std.proofs.Common.{length, ◌-◌, ◌≡◌, ◌≤◌, ◌++◌, take}
use Rattle.std.specs.Option.{ForSome}
use Rattle.std.specs.Prelude.{Some, None}
use Rattle.program_io.proofs.transfer.write_all.Given as goal

abbrev pub invariant-loop-at : goal.invariant-loop-at
invariant-loop-at g l = record {
  within : l.at ≤ length l.bytes;
  smooth : g.K.Sink.faults l.sink ≡ g.K.Sink.faults l.initial.sink;
  written : ForSome (g.K.Sink.written l.initial.sink) (λ w. g.K.Sink.written l.sink ≡ Some (w ++ take l.at l.bytes));
  untold : g.K.Sink.written l.initial.sink ≡ None → g.K.Sink.written l.sink ≡ None;
}

abbrev pub decreases-loop-at : goal.decreases-loop-at
decreases-loop-at g l = length l.bytes - l.at

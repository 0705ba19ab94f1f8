use Rattle.std.proofs.Common.{length, ◌-◌, ◌≡◌, ◌≤◌, ◌++◌, take}
use Rattle.std.specs.Option.{ForSome}
use Rattle.std.specs.Prelude.{Some}
use Rattle.trace_text.specs.Forms.{lines_text}
use Rattle.program_io.proofs.writing.write_lines.Given as goal

abbrev pub invariant-loop-at : goal.invariant-loop-at
invariant-loop-at g l = record {
  within : l.at ≤ length l.trace;
  smooth : g.K.Sink.faults l.sink ≡ g.K.Sink.faults l.initial.sink;
  written : ForSome (g.K.Sink.written l.initial.sink) (λ w. g.K.Sink.written l.sink ≡ Some (w ++ lines_text l.wire (take l.at l.trace)));
}

abbrev pub decreases-loop-at : goal.decreases-loop-at
decreases-loop-at g l = length l.trace - l.at

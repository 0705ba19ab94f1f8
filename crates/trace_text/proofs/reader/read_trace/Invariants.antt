use Rattle.std.proofs.Common.{◌≡◌, ◌++◌, true, length}
use Rattle.dtx_model.specs.Words.{each}
use Rattle.dtx_model.specs.TraceText.{is_fit, trace_text}
use Rattle.trace_text.proofs.reader.read_trace.Given as goal

abbrev pub invariant-loop-rest : goal.invariant-loop-rest
invariant-loop-rest l = record {
  bytes : l.bytes ≡ trace_text l.entries.items ++ l.rest;
  fit : each is_fit l.entries.items ≡ true;
}

abbrev pub decreases-loop-rest : goal.decreases-loop-rest
decreases-loop-rest l = length l.rest

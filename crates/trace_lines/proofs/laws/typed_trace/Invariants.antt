use Rattle.std.proofs.Common.{◌≡◌, true, take}
use Rattle.dtx_model.specs.Words.{each}
use Rattle.trace_lines.specs.OneTrace.{is_frame_typed_at, is_typed_at}
use Rattle.trace_lines.proofs.laws.typed_trace.Given as goal

abbrev pub invariant-loop-index : goal.invariant-loop-index
invariant-loop-index l = record {
  typed : each is_typed_at (take l.index l.t) ≡ true;
  frame_typed : each is_frame_typed_at (take l.index l.t) ≡ true;
}

use Rattle.std.proofs.Common.{◌≡◌, ◌≤◌, ◌++◌, ℕ, List, true, take}
use Rattle.dtx_model.specs.TraceText.{trace_text}
use Rattle.dtx_model.specs.Words.{each}
use Rattle.trace_lines.specs.OneTrace.{is_typed_at}
use Rattle.trace_lines.proofs.printer.push_plain_lines.Given as goal

abbrev pub invariant-loop-index : goal.invariant-loop-index
invariant-loop-index l = record {
  within : l.index ≤ l.to;
  text : (before : List ℕ) → before ++ l.initial.text.items ≡ trace_text (take l.from l.t) → before ++ l.text.items ≡ trace_text (take l.index l.t);
  typed : each is_typed_at (take l.from l.t) ≡ true → each is_typed_at (take l.index l.t) ≡ true;
}

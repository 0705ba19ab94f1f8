use Rattle.std.proofs.Common.{◌∙◌, List, Some, ap, subst, ℕ}
use Rattle.program_io.specs.TraceRead.{IsBadTraceLine, IsTraceWithin, refused_within}
use Rattle.program_io.specs.declared.checking.TheConstants.{TRACE_BYTES}
use Rattle.trace_text.specs.declared.reader.TraceError.{TraceError}
use Rattle.program_io.proofs.TraceLines.{longer_line, trace_left, whole_trace}
use Rattle.program_io.proofs.checking.trace_from.Goals as goal

pub returns-in-Ok-trace_in-clause-trace : goal.returns-in-Ok-trace_in-clause-trace
returns-in-Ok-trace_in-clause-trace g c = λ b told.
    let T = c.in-Ok-trace_in.trace in
    whole_trace TRACE_BYTES b T (subst (λ (x : List ℕ). IsTraceWithin TRACE_BYTES x T) (c.deref.ensures.value ∙ c.in-Ok.ensures.read b told) c.in-Ok-trace_in.ensures.trace)

pub returns-in-Ok-trace_in-clause-left : goal.returns-in-Ok-trace_in-clause-left
returns-in-Ok-trace_in-clause-left g c = λ b told.
    let T = c.in-Ok-trace_in.trace in
    c.in-Ok.ensures.left b told
    ∙ ap Some (trace_left TRACE_BYTES b T (subst (λ (x : List ℕ). IsTraceWithin TRACE_BYTES x T) (c.deref.ensures.value ∙ c.in-Ok.ensures.read b told) c.in-Ok-trace_in.ensures.trace))

pub returns-in-Err-BadLine-clause-refused : goal.returns-in-Err-BadLine-clause-refused
returns-in-Err-BadLine-clause-refused g c = λ b told.
    let line = c.in-Err-BadLine.line in
    let found : IsBadTraceLine TRACE_BYTES c.deref.result.now line = subst (λ (e : TraceError). refused_within TRACE_BYTES c.deref.result.now e) c.in-Err-BadLine.field-0-is c.in-Err-BadLine.ensures.refused in
    longer_line TRACE_BYTES b line (subst (λ (x : List ℕ). IsBadTraceLine TRACE_BYTES x line) (c.deref.ensures.value ∙ c.in-Ok.ensures.read b told) found)

-- What the reader of traces gives.
use Rattle.std.specs.Prelude.{ℕ, List}
use Rattle.dtx_model.specs.TraceText.{IsBadLine}
use Rattle.trace_text.specs.declared.reader.TraceError.{TraceError}
use Rattle.trace_text.specs.declared.reader.TraceError.TheVariants.{BadLine, Memory}

-- what a refusal says of the bytes
abbrev pub IsBadTrace : List ℕ → TraceError → Type 0
IsBadTrace b (BadLine n) = IsBadLine b n
IsBadTrace b Memory = Unit {0}

-- Which bytes are a trace that is checked, and which line of them is the first that isn't.
use Rattle.std.specs.Prelude.{ℕ, ◌+◌, ◌<◌, ◌≡◌, ◌≢◌, ◌≤◌, true, List, [], ◌++◌, length, Option}
use Rattle.std.specs.Option.{ForSome}
use Rattle.dtx_model.specs.Traces.{Placed}
use Rattle.dtx_model.specs.TraceText.{IsTextOf, is_fit, trace_line, trace_text}
use Rattle.dtx_model.specs.Words.{each}
use Rattle.program_io.specs.declared.exit.Exit.{Exit}
use Rattle.program_io.specs.declared.exit.Exit.TheVariants.{BadTrace, Memory as MemoryExit, ReadFault}
use Rattle.trace_text.specs.declared.reader.TraceError.{TraceError}
use Rattle.trace_text.specs.declared.reader.TraceError.TheVariants.{BadLine, Memory}

-- the bytes are the text of this trace, and there are at most so many
pub record IsTraceWithin (most : ℕ) (b : List ℕ) (T : List Placed) : Type 0 where
  pub text : IsTextOf b T
  pub within : length b ≤ most

-- Line n is the first that isn't a line of a trace at that place, or that goes beyond so many bytes: the lines before it are those of a trace, and within them; and whatever line of a trace stands after them, it goes beyond.
pub record IsBadTraceLine (most : ℕ) (b : List ℕ) (n : ℕ) : Type 0 where
  pub before : List Placed
  pub rest : List ℕ
  pub bytes : b ≡ trace_text before ++ rest
  pub fit : each is_fit before ≡ true
  pub within : length (trace_text before) ≤ most
  pub number : n ≡ length before + 1
  pub left : rest ≢ []
  pub unread : (x : Placed) (after : List ℕ) → is_fit x ≡ true → rest ≡ trace_line n x ++ after → most < length (trace_text before) + length (trace_line n x)

-- what a refusal says of the bytes; nothing is said of want of memory
abbrev pub refused_within : ℕ → List ℕ → TraceError → Type 0
refused_within most b (BadLine n) = IsBadTraceLine most b n
refused_within most b Memory = Unit {0}

-- no trace came of the bytes that the source may give, for the cause that the answer says; nothing is said of a fault of the source and of want of memory, and no other answer stands for this
abbrev pub RefusesTrace : ℕ → Option (List ℕ) → Exit → Type 0
RefusesTrace most given (BadTrace n) = ForSome given (λ b. IsBadTraceLine most b n)
RefusesTrace most given ReadFault = Unit {0}
RefusesTrace most given MemoryExit = Unit {0}
RefusesTrace most given _ = ⊥

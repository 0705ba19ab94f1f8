-- The words beside a mark.
use Rattle.std.specs.Prelude.{ℕ, ◌++◌, List, [], Option, Some, None, codes}
use Rattle.dtx_values.specs.declared.script.Line.{Line}
use Rattle.dtx_model.specs.Grammar.{connection_word, line_text}
use Rattle.dtx_model.specs.TraceText.{answer_text, entry_text, message_text}
use Rattle.dtx_model.specs.Words.{kth}
use Rattle.line_tail.specs.Cut.{behind, front}
use Rattle.trace_picture.specs.declared.marks.Label.{Label}
use Rattle.trace_picture.specs.declared.marks.Label.TheVariants.{Call, Entry, Message}

-- the words of a line after its client, up to its end
abbrev pub command_of : Option Line → List ℕ
command_of (Some l) = front 10 (behind 32 (line_text l))
command_of None = []

abbrev pub label_text : List Line → Label → List ℕ
label_text s (Call n x) = command_of (kth s n) ++ (codes " -&gt; " ++ answer_text x)
label_text s (Message c m) = connection_word c ++ (codes " " ++ message_text m)
label_text s (Entry x) = entry_text x

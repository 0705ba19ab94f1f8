-- The text of a trace in the form that was asked for.
use Rattle.std.specs.Prelude.{ℕ, List}
use Rattle.dtx_values.specs.declared.script.Line.{Line}
use Rattle.dtx_model.specs.Traces.{Placed}
use Rattle.dtx_model.specs.TraceText.{trace_text}
use Rattle.program_words.specs.declared.command.Form.{Form}
use Rattle.program_words.specs.declared.command.Form.TheVariants.{Plain, Wire, Json, Summary, Why, Html}
use Rattle.trace_text.specs.Forms.{json_text, wire_text}
use Rattle.trace_text.specs.Summary.{summary_text}
use Rattle.reason_text.specs.Sentences.{why_text}
use Rattle.trace_page.specs.Page.{page}

-- the text of a trace of this script in a form
abbrev pub form_text : Form → List Line → List Placed → List ℕ
form_text Plain s T = trace_text T
form_text Wire s T = wire_text T
form_text Json s T = json_text T
form_text Summary s T = summary_text T
form_text Why s T = why_text s T
form_text Html s T = page s T

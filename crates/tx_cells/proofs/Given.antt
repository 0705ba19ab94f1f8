-- What a cell gives by what it keeps.
use Rattle.std.proofs.Common.{ℕ, List, ap, ◌∙◌, take}
use Rattle.dtx_values.specs.declared.call.Call.{Call}
use Rattle.dtx_values.specs.declared.script.Line.{Line}
use Rattle.dtx_model.specs.declared.waiting.EnteredCall.{EnteredCall}
use Rattle.dtx_model.specs.Words.{past_of}
use Rattle.script_calls.specs.Prefix.{IsInOrder, IsPrefix}
use Rattle.script_calls.specs.Rows.{row_at}
use Rattle.script_calls.specs.SeenRow.{SeenRow}

pub in_order_of : (s : List Line) (t : ℕ) (rows : List (SeenRow Call)) (ks : List EnteredCall) → IsPrefix s t rows ks → IsInOrder s t ks
in_order_of s t rows ks p a = ((row_at a rows).entered, p.entered a ∙ ap (λ ds. past_of (take (row_at a rows).entered ds)) (p.calls a))

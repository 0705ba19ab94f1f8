-- Whom a transaction still owes an outcome.
use Rattle.std.specs.Prelude.{Bool, true, false, ◌&&◌, not, List, [], ◌∷◌, Option, Some, None}
use Rattle.std.specs.List.{flat_map}
use Rattle.dtx_values.specs.declared.entry.Entry.{Entry}
use Rattle.dtx_values.specs.declared.entry.Entry.TheVariants.{Sent}
use Rattle.dtx_values.specs.declared.message.Conn.TheVariants.{Enl}
use Rattle.dtx_values.specs.declared.message.Dir.TheVariants.{Up}
use Rattle.dtx_values.specs.declared.message.Message.TheVariants.{EnlistPrepared}
use Rattle.dtx_values.specs.declared.number.EnlNo.{EnlNo}
use Rattle.dtx_values.specs.declared.number.RmNo.{RmNo}
use Rattle.dtx_values.specs.declared.script.Line.{Line}
use Rattle.dtx_model.specs.Caused.{calls_in}
use Rattle.dtx_model.specs.Entries.{is_told}
use Rattle.dtx_model.specs.Plans.{manager_of}
use Rattle.dtx_model.specs.Replies.{with_name}
use Rattle.dtx_model.specs.Tied.{is_recovery}
use Rattle.dtx_model.specs.Words.{has, past_of}
use Rattle.outcome_reasons.specs.declared.said.Why.{Why}
use Rattle.outcome_reasons.specs.declared.said.Why.TheVariants.{Owes}

abbrev pub prepared_after : Entry → List EnlNo → List EnlNo
prepared_after (Sent (Enl e) Up EnlistPrepared) es = with_name e es
prepared_after _ es = es

-- the enlistments that said PREPARED, by number
abbrev pub prepared : List Entry → List EnlNo
prepared [] = []
prepared (x ∷ past) = prepared_after x (prepared past)

abbrev pub has_recovered : Option RmNo → List Entry → Bool
has_recovered (Some r) h = has (is_recovery r.value) h
has_recovered None h = false

-- it wasn't told an outcome, and its manager has not recovered
abbrev pub is_owed : List Line → List Entry → EnlNo → Bool
is_owed s h e = not (has (is_told e.value) h) && not (has_recovered (manager_of (calls_in s (past_of s)) e.value) h)

abbrev pub owes_if : Bool → EnlNo → List Why
owes_if true e = Owes e ∷ []
owes_if false e = []

-- whom the transaction of this history still owes an outcome
abbrev pub owed : List Line → List Entry → List Why
owed s h = flat_map (λ e. owes_if (is_owed s h e) e) (prepared h)

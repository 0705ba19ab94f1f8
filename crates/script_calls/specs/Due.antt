-- The calls that a script's lines give each transaction and the log, actor by actor.
use Rattle.std.specs.Prelude.{ℕ, suc, ◌==◌, List, [], ◌∷◌, ◌++◌, length, Option, Some, None, if◌then◌else◌}
use Rattle.dtx_values.specs.declared.call.Call.{Call}
use Rattle.dtx_values.specs.declared.number.TxNo.{TxNo}
use Rattle.dtx_values.specs.declared.script.Body.{Body}
use Rattle.dtx_values.specs.declared.script.Body.TheVariants.{Stop, Restart}
use Rattle.dtx_values.specs.declared.script.Line.{Line}
use Rattle.dtx_model.specs.Words.{all_of, past_of, put}
use Rattle.dtx_model.specs.Contexts.{calls_by}
use Rattle.script_calls.specs.declared.calls.LogCall.{LogCall}
use Rattle.script_calls.specs.declared.calls.LogCall.TheVariants.{Stop as StopCall, Restart as RestartCall}
use Rattle.script_calls.specs.declared.rows.Due.{Due}

-- where line n gives a transaction this call: what is due at transaction t
abbrev pub due_at : ℕ → ℕ → TxNo × Call → Option (Due Call)
due_at t n x = if t == x.0.value then Some (record { line = n; call = x.1 }) else None

-- the calls that a line gives transaction t, where it is actor a's, and these lines stand before it, newest first
abbrev pub due_by_line : List Line → ℕ → ℕ → List Line → Line → List (Due Call)
due_by_line s a t before l = if a == l.actor.value then all_of (due_at t (suc (length before))) (calls_by s before l) else []

-- what lines give, in order of lines: they stand newest first, and each gives so much after the lines before it
abbrev pub given_by : {D : Type 0} → (List Line → Line → List D) → List Line → List D
given_by f [] = []
given_by f (l ∷ before) = given_by f before ++ f before l

abbrev pub calls_until : List Line → ℕ → ℕ → List Line → List (Due Call)
calls_until s a t ls = given_by (due_by_line s a t) ls

-- Calls: the calls of actor a at transaction t, in order of lines. They are those of a's lines, scope lines aside, that name t, or an enlistment or a clone
-- of t; and the begin, commit or rollback that a scope line of a gives t.
abbrev pub calls_at : List Line → ℕ → ℕ → List (Due Call)
calls_at s a t = calls_until s a t (past_of s)

-- the call that a line gives the log
abbrev pub log_call : Body → Option LogCall
log_call (Stop n i) = Some (StopCall n i)
log_call Restart = Some RestartCall
log_call _ = None

abbrev pub log_due : ℕ → Option LogCall → Option (Due LogCall)
log_due n (Some c) = Some (record { line = n; call = c })
log_due n None = None

abbrev pub log_due_by_line : ℕ → List Line → Line → List (Due LogCall)
log_due_by_line a before l = if a == l.actor.value then put (log_due (suc (length before)) (log_call l.body)) [] else []

abbrev pub log_calls_until : ℕ → List Line → List (Due LogCall)
log_calls_until a ls = given_by (log_due_by_line a) ls

-- Calls, at the log: actor a's lines `stop` and `restart`, in order
abbrev pub log_calls_at : List Line → ℕ → List (Due LogCall)
log_calls_at s a = log_calls_until a (past_of s)

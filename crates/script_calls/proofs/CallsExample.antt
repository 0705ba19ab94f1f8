-- The calls of two clients in a script with a nested close, and at its log.
use Rattle.std.proofs.Common.{◌≡◌, List, [], ◌∷◌, ◌++◌, lit≤, refl}
use Rattle.dtx_values.specs.declared.call.Call.TheVariants.{Begin, Commit, Rollback}
use Rattle.dtx_values.specs.declared.number.ActorNo.{ActorNo}
use Rattle.dtx_values.specs.declared.number.TxNo.{TxNo}
use Rattle.dtx_values.specs.declared.script.Body.TheVariants.{Commit as CommitLine, Restart, Stop}
use Rattle.dtx_values.specs.declared.script.Line.{Line}
use Rattle.dtx_values.specs.declared.words.Image.TheVariants.{Keep}
use Rattle.dtx_values.specs.declared.words.Timeout.TheVariants.{Default as DefaultTimeout}
use Rattle.script_histories.proofs.ScopeExample.{scoped}
use Rattle.script_calls.specs.declared.calls.LogCall.TheVariants.{Stop as StopCall, Restart as RestartCall}
use Rattle.script_calls.specs.Due.{calls_at, log_calls_at}
use Rattle.dtx_model.proofs.Cast.{a1, t1}

abbrev a2 : ActorNo
a2 = record { value = 2; in_range = (lit≤ tt, lit≤ tt) }

abbrev t2 : TxNo
t2 = record { value = 2; in_range = (lit≤ tt, lit≤ tt) }

-- after `a1 open s1 required t1 default default`, `a1 open s2 requiresnew t2 default default` and `a1 close s1`, a nested close:
-- `a2 commit t1`, `a2 stop 1 keep`, `a1 restart`
abbrev two_clients : List Line
two_clients = scoped ++ record { actor = a2; body = CommitLine t1 } ∷ record { actor = a2; body = Stop 1 Keep } ∷ record { actor = a1; body = Restart } ∷ []

-- a1 begins t1 by its first line, and its third rolls it back; a2 commits it
calls_at_t1 : calls_at two_clients 1 1 ≡ record { line = 1; call = Begin t1 DefaultTimeout } ∷ record { line = 3; call = Rollback t1 } ∷ []
calls_at_t1 = refl

commit_at_t1 : calls_at two_clients 2 1 ≡ record { line = 4; call = Commit t1 } ∷ []
commit_at_t1 = refl

-- the close also rolls t2 back, which nobody else calls
calls_at_t2 : calls_at two_clients 1 2 ≡ record { line = 2; call = Begin t2 DefaultTimeout } ∷ record { line = 3; call = Rollback t2 } ∷ []
calls_at_t2 = refl

nobody_else : calls_at two_clients 2 2 ≡ []
nobody_else = refl

-- and each has one call at the log
calls_at_log : log_calls_at two_clients 1 ≡ record { line = 6; call = RestartCall } ∷ []
calls_at_log = refl

stop_at_log : log_calls_at two_clients 2 ≡ record { line = 5; call = StopCall 1 Keep } ∷ []
stop_at_log = refl

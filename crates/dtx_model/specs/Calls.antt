-- Which transaction a line of a script calls by its own words, and which call that is.
use Rattle.std.specs.Prelude.{ℕ, ◌==◌, Bool, true, false, List, Option, Some, None, if◌then◌else◌}
use Rattle.dtx_values.specs.declared.call.Call.{Call}
use Rattle.dtx_values.specs.declared.call.Call.TheVariants.{Begin, Volatile, Durable, Promotable, Clone, Complete, Commit, Rollback, Marshal, Status, Await, Tick, Do, Lose, Gone, Reenlist, Recovered}
use Rattle.dtx_values.specs.declared.number.CloneNo.{CloneNo}
use Rattle.dtx_values.specs.declared.number.EnlNo.{EnlNo}
use Rattle.dtx_values.specs.declared.number.TxNo.{TxNo}
use Rattle.dtx_values.specs.declared.script.Body.{Body}
use Rattle.dtx_values.specs.declared.script.Body.TheVariants.{Begin as BeginLine, Volatile as VolatileLine, Durable as DurableLine, Promotable as PromotableLine, Gone as GoneLine, Marshal as MarshalLine, Lose as LoseLine, Reenlist as ReenlistLine, Recovered as RecoveredLine, Clone as CloneLine, Complete as CompleteLine, Commit as CommitLine, Rollback as RollbackLine, Status as StatusLine, Await as AwaitLine, Tick as TickLine, Do as DoLine}
use Rattle.dtx_values.specs.declared.script.Line.{Line}
use Rattle.dtx_model.specs.Words.{latest, past_of}

-- the transaction of the clone, where the line makes it
abbrev pub clone_made : ℕ → Body → Option TxNo
clone_made c (CloneLine t d k) = if c == d.value then Some t else None
clone_made c _ = None

-- the transaction of a clone: that of the line that makes it
abbrev pub transaction_of : List Line → ℕ → Option TxNo
transaction_of s c = latest (λ l. clone_made c l.body) (past_of s)

abbrev pub complete_call : CloneNo → Option TxNo → Option (TxNo × Call)
complete_call c (Some t) = Some (t, Complete c)
complete_call c None = None

-- the transaction of an enlistment: that of the line that makes it
abbrev pub enlistment_made : ℕ → Body → Option TxNo
enlistment_made e (VolatileLine t f o v) = if e == f.value then Some t else None
enlistment_made e (DurableLine t f r s) = if e == f.value then Some t else None
enlistment_made e (PromotableLine t f r v o p) = if e == f.value then Some t else None
enlistment_made e _ = None

abbrev pub transaction_with : List Line → ℕ → Option TxNo
transaction_with s e = latest (λ l. enlistment_made e l.body) (past_of s)

abbrev pub gone_call : EnlNo → Option TxNo → Option (TxNo × Call)
gone_call e (Some t) = Some (t, Gone e)
gone_call e None = None

abbrev pub reenlist_call : EnlNo → Option TxNo → Option (TxNo × Call)
reenlist_call e (Some t) = Some (t, Reenlist e)
reenlist_call e None = None

-- the transaction that a line calls, and the call
abbrev pub call_of : List Line → Body → Option (TxNo × Call)
call_of s (BeginLine t d) = Some (t, Begin t d)
call_of s (VolatileLine t e o v) = Some (t, Volatile t e o v)
call_of s (DurableLine t e r x) = Some (t, Durable t e r x)
call_of s (PromotableLine t e r v o p) = Some (t, Promotable t e r v o p)
call_of s (CloneLine t c k) = Some (t, Clone t c k)
call_of s (CompleteLine c) = complete_call c (transaction_of s c.value)
call_of s (CommitLine t) = Some (t, Commit t)
call_of s (RollbackLine t) = Some (t, Rollback t)
call_of s (MarshalLine t) = Some (t, Marshal t)
call_of s (StatusLine t) = Some (t, Status t)
call_of s (AwaitLine t) = Some (t, Await t)
call_of s (TickLine t n) = Some (t, Tick t n)
call_of s (DoLine t k n) = Some (t, Do t k n)
call_of s (LoseLine t c n m) = Some (t, Lose t c n m)
call_of s (GoneLine e) = gone_call e (transaction_with s e.value)
call_of s (ReenlistLine e) = reenlist_call e (transaction_with s e.value)
call_of s (RecoveredLine t r) = Some (t, Recovered t r)
call_of s _ = None

-- the call loses an enlistment
abbrev pub is_gone_call : Call → Bool
is_gone_call (Gone e) = true
is_gone_call _ = false

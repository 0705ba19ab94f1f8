-- What justified an abort.
use Rattle.std.specs.Prelude.{ℕ, ◌==◌, Bool, true, false, nat_le, ◌&&◌, not, List, [], ◌∷◌, Option, Some, None, if◌then◌else◌}
use Rattle.dtx_values.specs.declared.entry.Answer.TheVariants.{Nested}
use Rattle.dtx_values.specs.declared.entry.Entry.{Entry}
use Rattle.dtx_values.specs.declared.entry.Entry.TheVariants.{Called, Cloned, CommitAsked, Down as End, Got, LogFull, Lost, OwnerAnswered, PromoteReply, Requested, RollbackAsked, TimedOut, Voted}
use Rattle.dtx_values.specs.declared.number.CloneNo.{CloneNo}
use Rattle.dtx_values.specs.declared.number.ScopeNo.{ScopeNo}
use Rattle.dtx_values.specs.declared.script.Body.{Body}
use Rattle.dtx_values.specs.declared.script.Body.TheVariants.{Close}
use Rattle.dtx_values.specs.declared.script.Line.{Line}
use Rattle.dtx_model.specs.Entries.{began_of}
use Rattle.dtx_model.specs.Observed.{clock}
use Rattle.dtx_model.specs.Outcome.{is_complete, is_first_veto, is_rollback}
use Rattle.dtx_model.specs.Traces.{Placed}
use Rattle.dtx_model.specs.Words.{kth, latest}
use Rattle.outcome_reasons.specs.declared.said.AbortReason.{AbortReason}
use Rattle.outcome_reasons.specs.declared.said.AbortReason.TheVariants.{Ended, LogFull as WasFull, Lost as WasLost, Nested as NestedUnder, NoRecord, NotPromoted, OpenClone, OwnerAborted, Requested as HasRequested, RolledBack, TimedOut as HasTimedOut, Unfinished, VotedNo}
use Rattle.outcome_reasons.specs.declared.said.Caller.{Caller}
use Rattle.outcome_reasons.specs.declared.said.Moment.{Moment}
use Rattle.outcome_reasons.specs.First.{when}
use Rattle.outcome_reasons.specs.Moments.{caller, moment}
use Rattle.outcome_reasons.specs.Roots.{root}

-- a line that was answered so: its scope is beneath this one
abbrev pub nested_in : Placed → Option (ℕ × ScopeNo)
nested_in (p, Called n a (Nested q)) = Some (n, q)
nested_in _ = None

abbrev pub scope_if : Bool → ScopeNo → Option ScopeNo
scope_if true q = Some q
scope_if false q = None

-- the scope beneath which line n was answered that it is nested
abbrev pub nested_at : ℕ → List (ℕ × ScopeNo) → Option ScopeNo
nested_at n qs = latest (λ x. scope_if (x.0 == n) x.1) qs

-- the scope that the command closes
abbrev pub closes : Option Line → Option ScopeNo
closes (Some l) = closes_by l.body
  where
    closes_by : Body → Option ScopeNo
    closes_by (Close q) = Some q
    closes_by _ = None
closes None = None

abbrev pub closed_by : Option ScopeNo → Option ScopeNo → AbortReason
closed_by None above = RolledBack
closed_by (Some q) (Some r) = NestedUnder q r
closed_by (Some q) None = Unfinished q

-- how the newest call rolled the transaction back
abbrev pub rolled_by : List Line → List (ℕ × ScopeNo) → Option Caller → AbortReason
rolled_by s qs (Some c) = closed_by (closes (kth s c.line)) (nested_at c.line qs)
rolled_by s qs None = RolledBack

-- a rollback clone that isn't complete in h
abbrev pub open_in : List Entry → Entry → Option CloneNo
open_in h (Cloned c k) = when (is_rollback k && not (is_complete h (c, k))) c
open_in h _ = None

abbrev pub lower : Option CloneNo → Option CloneNo → Option CloneNo
lower (Some c) (Some d) = if nat_le c.value d.value then Some c else Some d
lower (Some c) None = Some c
lower None o = o

-- the lowest of the rollback clones of these entries that aren't complete in h
abbrev pub lowest_open : List Entry → List Entry → Option CloneNo
lowest_open h [] = None
lowest_open h (x ∷ past) = lower (open_in h x) (lowest_open h past)

-- the timeout in milliseconds; 0 before the transaction is begun
abbrev pub limit_in : Option ℕ → ℕ
limit_in (Some d) = d
limit_in None = 0

-- what the veto is that comes after this history
abbrev pub abort_reason : List Line → List (ℕ × ScopeNo) → List ℕ → List Entry → Entry → AbortReason
abort_reason s qs ns past RollbackAsked = rolled_by s qs (caller past)
abort_reason s qs ns past TimedOut = HasTimedOut (clock past) (limit_in (latest began_of past))
abort_reason s qs ns past CommitAsked = OpenClone (lowest_open past past)
abort_reason s qs ns past (Voted e v) = VotedNo e
abort_reason s qs ns past (OwnerAnswered e o) = OwnerAborted e
abort_reason s qs ns past (PromoteReply e ok) = NotPromoted e
abort_reason s qs ns past (Requested e r) = HasRequested e
abort_reason s qs ns past (Lost e) = WasLost e
abort_reason s qs ns past (End c d) = Ended (root ns c past) c d
abort_reason s qs ns past (Got c d m) = Ended (root ns c past) c d
abort_reason s qs ns past LogFull = WasFull
abort_reason s qs ns past _ = NoRecord

-- what the veto is and where it stands, where this entry is one before which no evidence stands
abbrev pub vetoing : List Line → List (ℕ × ScopeNo) → List ℕ → List Entry → Entry → Option (AbortReason × Moment)
vetoing s qs ns past x = when (is_first_veto past x) (abort_reason s qs ns past x, moment ns past x)

-- What a commit comes to.
use Rattle.std.specs.Prelude.{◌≡◌, Bool, true, false, if◌then◌else◌, Option, Some, None, Result, Ok, Err, []}
use Rattle.dtx_values.specs.declared.entry.Entry.{Entry}
use Rattle.dtx_values.specs.declared.entry.Entry.TheVariants.{LogFull}
use Rattle.dtx_values.specs.declared.words.Outcome.{Outcome}
use Rattle.dtx_values.specs.declared.words.Outcome.TheVariants.{Committed, Aborted, InDoubt}
use Rattle.dtx_model.specs.Entries.{is_commit}
use Rattle.dtx_model.specs.Plans.{plan_of}
use Rattle.dtx_model.specs.Steps.{pending}
use Rattle.dtx_model.specs.Words.{has}
use Rattle.dtx_model.specs.World.{half}
use Rattle.own_laws.specs.Waiting.{is_waiting_by}
use Rattle.transactions.specs.declared.error.CommitError.{CommitError}
use Rattle.transactions.specs.declared.error.CommitError.TheVariants.{Aborted as AbortedError, LogFull as FullError, InDoubt as InDoubtError, Waits, Refused as RefusedCommit, Many as TooMany, LogStopped as CommitStopped, NoEpoch as CommitEpoch, Memory as NoMemory}
use Rattle.transactions.specs.declared.error.TxError.{TxError}
use Rattle.transactions.specs.declared.error.TxError.TheVariants.{Refused, Waits as TxWaits, Many, LogFull as TxFull, LogStopped, NoEpoch, Memory}
use Rattle.transactions.specs.State.{LiveState, past}
use Rattle.transactions.specs.Waiting.{AllAsked}

-- the error of a commit for that of a call
abbrev pub as_commit : TxError → CommitError
as_commit (Refused a) = RefusedCommit a
as_commit TxWaits = Waits
as_commit Many = TooMany
as_commit TxFull = FullError
as_commit LogStopped = CommitStopped
as_commit NoEpoch = CommitEpoch
as_commit Memory = NoMemory

-- what the client was told
abbrev pub told : LiveState → Option Outcome
told x = (half x.tx.world).seen.told_client

-- The transaction waits: its client wasn't told, and each pending step is a reply of an enlistment that was asked; and where there is none, a blocking clone is open, or an
-- enlistment stays silent to what it was asked.
pub record Waiting (x : LiveState) : Type 0 where
  pub untold : told x ≡ None
  pub asked : AllAsked x.tx.world
  pub why : pending x.tx.world ≡ [] → is_waiting_by (plan_of x.tx.world.calls) (past x) ≡ true

-- the log was full when a commit was to be recorded
abbrev pub is_full : Entry → Bool
is_full LogFull = true
is_full _ = false

-- why a commit aborts, where this says whether the log was full when it was to be recorded
abbrev pub aborted_by : Bool → CommitError
aborted_by full = if full then FullError else AbortedError

-- The client was told that the transaction aborted whose commit was asked for, and this says whether the log was full when that was to be recorded.
abbrev pub IsAborted : Bool → LiveState → Type 0
IsAborted full z = (told z ≡ Some Aborted) × (has is_commit (past z) ≡ true) × (has is_full (past z) ≡ full)

-- The commit was asked for, and the client was told so; or the transaction waits. Where the call was refused, or wasn't done, nothing is said here.
abbrev pub IsTold : {A : Type 0} → Result A CommitError → Option LiveState → Type 0
IsTold (Ok x) (Some z) = (told z ≡ Some Committed) × (has is_commit (past z) ≡ true)
IsTold (Err AbortedError) (Some z) = IsAborted false z
IsTold (Err FullError) (Some z) = IsAborted true z
IsTold (Err InDoubtError) (Some z) = (told z ≡ Some InDoubt) × (has is_commit (past z) ≡ true)
IsTold (Err Waits) (Some z) = Waiting z × (has is_commit (past z) ≡ true)
IsTold (Ok x) None = ⊥
IsTold (Err AbortedError) None = ⊥
IsTold (Err FullError) None = ⊥
IsTold (Err InDoubtError) None = ⊥
IsTold (Err Waits) None = ⊥
IsTold _ z = Unit {0}

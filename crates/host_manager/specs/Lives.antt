-- The beginning of a manager, of its epochs and of its transactions, and recovery.
use Rattle.std.specs.Prelude.{ℕ, ◌≡◌, ◌≢◌, ◌≤◌, ◌<◌, ◌+◌, ◌*◌, ◌++◌, ◌⊎◌, ◌∷◌, [], true, false, List, Some, None, Result, Ok, Err, IsTrue, IsFalse, length}
use Rattle.dtx_values.specs.TxIds.{number_of}
use Rattle.dtx_values.specs.declared.call.Call.TheVariants.{Begin}
use Rattle.dtx_values.specs.declared.entry.Answer.TheVariants.{Fine}
use Rattle.dtx_values.specs.declared.number.EnlNo.{EnlNo}
use Rattle.dtx_values.specs.declared.number.RmNo.{RmNo}
use Rattle.dtx_values.specs.declared.tx_id.TxId.{TxId}
use Rattle.dtx_values.specs.declared.words.Outcome.{Outcome}
use Rattle.dtx_values.specs.declared.words.Timeout.{Timeout}
use Rattle.dtx_model.specs.Log.{log_has}
use Rattle.coordinator_log.specs.Crash.{AllHold}
use Rattle.coordinator_log.specs.declared.layout.TheConstants.{LOG_BYTES}
use Rattle.log_epochs.specs.Beginning.{AllAre}
use Rattle.log_epochs.specs.Epochs.{epoch_of}
use Rattle.outside.specs.Faults.{Rose}
use Rattle.host_disk.specs.HostState.{MayBeLeft}
use Rattle.host_manager.specs.Host.{HostView, KeepsDesk, faults, is_quiet, records}
use Rattle.host_manager.specs.declared.error.HostError.{HostError}
use Rattle.host_manager.specs.declared.error.HostError.TheVariants.{Call, Disk, NotALog}
use Rattle.transactions.specs.declared.error.TxError.TheVariants.{LogStopped, Memory}
use Rattle.transactions.specs.Calling.{IsCalled}
use Rattle.transactions.specs.Numbering.{MayNotBegin, NumbersLog}
use Rattle.transactions.specs.Recovering.{NoneIsFound, OnlyFrees, recovered_outcome}
use Rattle.transactions.specs.Slots.{AreSame, live_at}
use Rattle.transactions.specs.State.{LiveState, blank}

-- No transaction goes on, no resource manager has recovered, nothing was given to the host; and all numbers of the log's epoch count as given.
pub record IsNew (m : HostView) : Type 0 where
  pub lives : m.manager.lives ≡ []
  pub recovered : m.recovered ≡ []
  pub given : m.given ≡ 0
  pub last : m.manager.last ≡ 65536 * epoch_of (records m) + 256

-- the log has the records that these bytes have; where there are none, it has none
abbrev pub HoldsLog : List ℕ → HostView → Type 0
HoldsLog [] m = records m ≡ []
HoldsLog (b ∷ bytes) m = log_has (b ∷ bytes) ≡ Ok (records m)

-- these bytes are no log: they are more or fewer than one has, or some place of them is of another form
abbrev pub IsNoLog : List ℕ → Type 0
IsNoLog bytes = (length bytes ≢ LOG_BYTES) ⊎ ((place : ℕ) × (log_has bytes ≡ Err place))

-- Why no manager is made: there are bytes, and they are no log; or memory ran out.
abbrev pub MayNotOpen : List ℕ → HostError → Type 0
MayNotOpen bytes e = ((e ≡ NotALog) × (bytes ≢ []) × IsNoLog bytes) ⊎ (e ≡ Call Memory)

-- What a manager says of an enlistment: what the log says; or that first the disk has work to do.
abbrev pub SaysOutcome : ℕ → EnlNo → HostView → Result Outcome HostError → Type 0
SaysOutcome number e m (Ok o) = (is_quiet m ≡ true) × (o ≡ recovered_outcome number e.value (records m))
SaysOutcome number e m (Err x) = (is_quiet m ≡ false) × (x ≡ Disk)

-- The disk has work to do, and nothing was done.
abbrev pub IsBusy : HostView → HostView → Type 0
IsBusy old new = (is_quiet old ≡ false) × (new ≡ old)

-- Only records went that may be freed, in memory and, where the log was up, in each image that a crash can leave.
pub record Frees (old new : HostView) : Type 0 where
  pub gone : OnlyFrees new.recovered old.manager.lives (records old) (records new)
  pub images : IsTrue old.manager.log.is_up → AllAre (MayBeLeft new.manager.log.disk) (OnlyFrees new.recovered old.manager.lives (records old))
  pub rest : new ≡ record old { recovered = new.recovered; manager = record old.manager { log = new.manager.log } }

-- A resource manager has recovered: it counts so, and no record is found that may be freed; or the log stopped, and it counts so too; or memory ran out, and nothing was done.
abbrev pub Recovers : RmNo → HostView → HostView → Result (Unit {0}) HostError → Type 0
Recovers r old new (Ok x) =
    (is_quiet old ≡ true) × (new.recovered ≡ old.recovered ++ r ∷ []) × Frees old new × NoneIsFound new.recovered old.manager.lives (records new)
    × (IsTrue old.manager.log.is_up → AllHold (MayBeLeft new.manager.log.disk) (records new))
Recovers r old new (Err Disk) = IsBusy old new
Recovers r old new (Err (Call e)) =
    (is_quiet old ≡ true) × (((e ≡ Memory) × (new ≡ old))
    ⊎ ((e ≡ LogStopped) × (new.recovered ≡ old.recovered ++ r ∷ []) × Frees old new × IsFalse new.manager.log.is_up × (IsFalse old.manager.log.is_up ⊎ Rose (faults old.manager.log.disk) (faults new.manager.log.disk))))
Recovers r old new (Err _) = ⊥

-- What a begin does to the log, and that no resource manager recovers by it.
pub record Numbers (old new : HostView) : Type 0 where
  pub log : NumbersLog true MayBeLeft faults old.manager.log new.manager.log
  pub rises : old.manager.last ≤ new.manager.last
  pub desk : KeepsDesk old new

-- An epoch began: the last number is above the one before. Or why none did.
abbrev pub Starts : HostView → HostView → Result (Unit {0}) HostError → Type 0
Starts old new (Ok x) = (is_quiet old ≡ true) × (new.manager.lives ≡ old.manager.lives) × Numbers old new × (old.manager.last < new.manager.last)
Starts old new (Err Disk) = IsBusy old new
Starts old new (Err (Call e)) = (is_quiet old ≡ true) × (new.manager.lives ≡ old.manager.lives) × Numbers old new × (new.manager.last ≡ old.manager.last) × MayNotBegin faults old.manager.log new.manager.log old.manager.lives e
Starts old new (Err _) = ⊥

-- The transaction of this number began, with nothing asked of the disk; its number is above all that were given before, and is the last now.
pub record Begun (timeout : Timeout) (number : ℕ) (old new : HostView) : Type 0 where
  pub transaction : TxId
  pub named : number_of transaction ≡ number
  pub fresh : live_at transaction old.manager.lives ≡ None
  pub begun : (y : LiveState) × (live_at transaction new.manager.lives ≡ Some y) × IsCalled faults new.manager.log (Begin transaction.t timeout) 1 Fine (blank transaction old.manager.reading) y
  pub above : old.manager.last < number
  pub is_last : new.manager.last ≡ number
  pub others : AreSame transaction old.manager.lives new.manager.lives
  pub quiet : IsTrue (is_quiet new)

-- A transaction began; or first the disk has work to do, since something was asked of it, or an epoch began; or why none began.
abbrev pub Begins : Timeout → HostView → HostView → Result ℕ HostError → Type 0
Begins timeout old new (Ok number) = (is_quiet old ≡ true) × Begun timeout number old new × Numbers old new
Begins timeout old new (Err Disk) = IsBusy old new ⊎ ((new.manager.lives ≡ old.manager.lives) × (old.manager.last < new.manager.last) × Numbers old new)
Begins timeout old new (Err (Call e)) = (is_quiet old ≡ true) × (new.manager.lives ≡ old.manager.lives) × Numbers old new × MayNotBegin faults old.manager.log new.manager.log old.manager.lives e
Begins timeout old new (Err _) = ⊥

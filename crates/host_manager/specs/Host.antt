-- The manager that a host polls, as its users see it.
use Rattle.std.specs.Prelude.{ℕ, ◌≡◌, Bool, true, List, Some, None}
use Rattle.dtx_values.specs.TxIds.{number_of}
use Rattle.dtx_values.specs.declared.number.RmNo.{RmNo}
use Rattle.dtx_values.specs.declared.tx_id.TxId.{TxId}
use Rattle.dtx_model.specs.Learned.{Learned}
use Rattle.dtx_model.specs.Log.{CommitRecord}
use Rattle.dtx_model.specs.Outcome.{agree, justified}
use Rattle.coordinator_log.specs.Slots.{open_records}
use Rattle.host_disk.specs.HostState.{HostState}
use Rattle.host_disk.specs.Order.{Order, is_settled}
use Rattle.host_manager.specs.declared.clock.HostClock.{HostClock}
use Rattle.transactions.specs.Slots.{Standing, live_at}
use Rattle.transactions.specs.State.{LiveState, past}

-- the manager beneath; the resource managers that have recovered, in order; and how many of the disk's requests were given to the host
pub record HostView : Type 0 where
  pub manager : Standing HostState HostClock
  pub recovered : List RmNo
  pub given : ℕ

-- how many calls of the disk met a fault
abbrev pub faults : HostState → ℕ
faults d = d.faults

-- what the host is asked to do in its file, in order
abbrev pub asked : HostView → List Order
asked m = m.manager.log.disk.asked

-- whether nothing is asked of the disk
abbrev pub is_quiet : HostView → Bool
is_quiet m = is_settled (asked m)

-- the log's records
abbrev pub records : HostView → List CommitRecord
records m = open_records m.manager.log.slots

-- nothing changed but the manager beneath
abbrev pub KeepsDesk : HostView → HostView → Type 0
KeepsDesk old new = new ≡ record old { manager = new.manager }

-- nothing changed but the transactions
abbrev pub KeepsManager : HostView → HostView → Type 0
KeepsManager old new = new ≡ record old { manager = record old.manager { lives = new.manager.lives } }

-- no transaction of this number goes on
abbrev pub IsNobody : ℕ → HostView → Type 0
IsNobody number m = (t : TxId) → number_of t ≡ number → live_at t m.manager.lives ≡ None

-- The law of one outcome: all that anybody was told in this transaction has its cause, no two were told opposite outcomes, and each that came back learned the outcome.
pub record IsLawful (t : TxId) (xs : List LiveState) : Type 0 where
  pub just : (x : LiveState) → live_at t xs ≡ Some x → justified (past x) ≡ true
  pub agrees : (x : LiveState) → live_at t xs ≡ Some x → agree (past x) ≡ true
  pub learned : (x : LiveState) → live_at t xs ≡ Some x → Learned (past x)

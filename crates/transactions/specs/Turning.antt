-- What the time and a turn of the manager make of its transactions.
use Rattle.std.specs.Prelude.{ℕ, zero, suc, ◌≡◌, ◌⊎◌, ◌+◌, ◌-◌, ◌^◌, Bool, List, [], Option, Some, None, length}
use Rattle.dtx_values.specs.declared.note.Note.{Note}
use Rattle.dtx_values.specs.declared.note.Reply.{Reply}
use Rattle.dtx_values.specs.declared.number.TxNo.{TxNo}
use Rattle.dtx_values.specs.TxIds.{identifier_of_id}
use Rattle.dtx_values.specs.declared.tx_id.TxId.{TxId}
use Rattle.coordinator_log.specs.State.{LogState}
use Rattle.transactions.specs.declared.error.TxError.{TxError}
use Rattle.transactions.specs.declared.error.TxError.TheVariants.{Memory, Many}
use Rattle.resource_managers.specs.declared.enlistment.Enlistment.{Enlistment}
use Rattle.transactions.specs.declared.usage.Usage.TheVariants.{Left}
use Rattle.transactions.specs.Calling.{Ticks}
use Rattle.transactions.specs.Ending.{IsOver}
use Rattle.transactions.specs.Hearing.{IsHeard}
use Rattle.transactions.specs.Keeping.{HasRun}
use Rattle.transactions.specs.Logged.{KeepsRecords}
use Rattle.transactions.specs.Slots.{AreSame, KeepsTime, Standing, live_at, standing_at}
use Rattle.transactions.specs.State.{LiveState, past}
use Rattle.transactions.specs.Waiting.{AllAsked}

-- Where a transaction of this number goes on, it goes on after its time went on to this reading of the clock.
abbrev pub PassedAt : {D : Type 0} → (D → ℕ) → LogState D → ℕ → TxId → List LiveState → List LiveState → Type 0
PassedAt faults log now t old new = (x : LiveState) → live_at t old ≡ Some x → (y : LiveState) × (live_at t new ≡ Some y) × Ticks faults log now x y

-- Why the time of a transaction doesn't go on: memory ran out; or one goes on of this number, and all numbers of its lines are used.
abbrev pub TickFails : TxId → List LiveState → TxError → Type 0
TickFails t old e = (e ≡ Memory) ⊎ ((e ≡ Many) × (x : LiveState) × (live_at t old ≡ Some x) × (x.lines ≡ 2 ^ 32 - 1))

-- A turn of the transaction x: its time went on to the greatest reading of the clock; the objects heard all that came of it then, until it goes on only by a call, a reply or the time;
-- no other's record of the log was touched; and so it goes on, or it is over, nobody held it, and it was taken off. What holds of its run before and after that is known.
pub record HadTurn {D C O : Type 0} (faults : D → ℕ) (honest : Bool) (image : D → List ℕ → Type 0) (gives : O → Enlistment → Note → Option Reply → O → Type 0) (t : TxId) (x : LiveState) (old new : Standing D C) (before after : O) : Type 0 where
  pub passed : LiveState
  pub done : LiveState
  pub ticked : Ticks faults old.log old.reading x passed
  pub heard : IsHeard gives [] passed done before after
  pub all : (done.heard ≡ length (past done)) × AllAsked done.tx.world
  pub logged : KeepsRecords honest image (identifier_of_id t) old.log new.log
  pub ended : (live_at t new.lives ≡ Some done) ⊎ ((live_at t new.lives ≡ None) × IsOver done × (done.usage ≡ Left))
  pub run_before : HasRun honest image old.log x
  pub run : HasRun honest image new.log done

-- Where a transaction of this number goes on, it had a turn. Where none does, nothing was done.
abbrev pub Turned : {D C O : Type 0} → (D → ℕ) → Bool → (D → List ℕ → Type 0) → (O → Enlistment → Note → Option Reply → O → Type 0) → TxId → Standing D C → Standing D C → O → O → Type 0
Turned faults honest image gives t old new a b = ((x : LiveState) → live_at t old.lives ≡ Some x → HadTurn faults honest image gives t x old new a b) × (live_at t old.lives ≡ None → (new ≡ old) × (b ≡ a))

-- A turn of the transaction x that failed: its time went on, and the objects heard what came of it until then, while no other's record of the log was touched; so it goes on. What holds of its run is
-- known too.
pub record HadPart {D C O : Type 0} (faults : D → ℕ) (honest : Bool) (image : D → List ℕ → Type 0) (gives : O → Enlistment → Note → Option Reply → O → Type 0) (t : TxId) (x : LiveState) (old new : Standing D C) (before after : O) : Type 0 where
  pub passed : LiveState
  pub done : LiveState
  pub ticked : Ticks faults old.log old.reading x passed
  pub heard : IsHeard gives [] passed done before after
  pub on : live_at t new.lives ≡ Some done
  pub logged : KeepsRecords honest image (identifier_of_id t) old.log new.log
  pub run_before : HasRun honest image old.log x
  pub run : HasRun honest image new.log done

-- The turn of the transaction of this number failed: it is as it was, as the log is, and nothing was heard; or a part was done.
abbrev pub Stopped : {D C O : Type 0} → (D → ℕ) → Bool → (D → List ℕ → Type 0) → (O → Enlistment → Note → Option Reply → O → Type 0) → TxId → Standing D C → Standing D C → O → O → Type 0
Stopped faults honest image gives t old new a b = (x : LiveState) × (live_at t old.lives ≡ Some x) × (((live_at t new.lives ≡ Some x) × (new.log ≡ old.log) × (b ≡ a)) ⊎ HadPart faults honest image gives t x old new a b)

-- The transactions of the places from 1 up to this one had a turn each, one after the other, while all others and the time stood.
abbrev pub TurnedUpTo : {D C O : Type 0} → (D → ℕ) → Bool → (D → List ℕ → Type 0) → (O → Enlistment → Note → Option Reply → O → Type 0) → ℕ → Standing D C → Standing D C → O → O → Type 0
TurnedUpTo faults honest image gives zero old new a b = (new ≡ old) × (b ≡ a)
TurnedUpTo {D} {C} {O} faults honest image gives (suc n) old new a b =
    (p : TxNo) × (mid : Standing D C) × (m : O) × (p.value ≡ n + 1) × TurnedUpTo faults honest image gives n old mid a m
    × Turned faults honest image gives (standing_at p mid.lives) mid new m b × AreSame (standing_at p mid.lives) mid.lives new.lives × KeepsTime mid new

-- The transactions up to some place had a turn each, and the turn of the next one failed.
abbrev pub StoppedAfter : {D C O : Type 0} → (D → ℕ) → Bool → (D → List ℕ → Type 0) → (O → Enlistment → Note → Option Reply → O → Type 0) → Standing D C → Standing D C → O → O → Type 0
StoppedAfter {D} {C} {O} faults honest image gives old new a b =
    (n : ℕ) × (p : TxNo) × (mid : Standing D C) × (m : O) × (p.value ≡ n + 1) × TurnedUpTo faults honest image gives n old mid a m
    × Stopped faults honest image gives (standing_at p mid.lives) mid new m b × AreSame (standing_at p mid.lives) mid.lives new.lives × KeepsTime mid new

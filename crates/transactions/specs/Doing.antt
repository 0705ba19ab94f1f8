-- What the calls of a manager make of its transactions.
use Rattle.std.specs.Prelude.{ℕ, ◌≡◌, ◌≢◌, ◌⊎◌, ◌&&◌, ◌^◌, ◌-◌, Bool, true, false, List, [], Option, Some, None, Result, Ok, Err, is_some}
use Rattle.dtx_values.specs.declared.call.Call.{Call}
use Rattle.dtx_values.specs.declared.entry.Answer.{Answer}
use Rattle.dtx_values.specs.declared.call.Call.TheVariants.{Marshal}
use Rattle.dtx_values.specs.declared.entry.Answer.TheVariants.{Id, NoSuch, Wait}
use Rattle.dtx_values.specs.declared.note.Note.{Note}
use Rattle.dtx_values.specs.declared.note.Reply.{Reply}
use Rattle.dtx_values.specs.declared.number.EnlNo.{EnlNo}
use Rattle.dtx_values.specs.TxIds.{identifier_of_id}
use Rattle.dtx_values.specs.declared.tx_id.TxId.{TxId}
use Rattle.dtx_model.specs.Facts.{has_facts}
use Rattle.dtx_model.specs.Replies.{due_of}
use Rattle.dtx_model.specs.World.{half}
use Rattle.coordinator_log.specs.State.{LogState}
use Rattle.local_half.specs.Half.{fits_due}
use Rattle.transactions.specs.declared.error.TxError.{TxError}
use Rattle.transactions.specs.declared.error.TxError.TheVariants.{Memory, Many, Refused}
use Rattle.resource_managers.specs.declared.enlistment.Enlistment.{Enlistment}
use Rattle.transactions.specs.Calling.{IsCalled}
use Rattle.transactions.specs.declared.event.Event.{Event}
use Rattle.transactions.specs.Hearing.{Advances, Given, IsHeard}
use Rattle.transactions.specs.Keeping.{HasRun}
use Rattle.transactions.specs.Logged.{KeepsRecords}
use Rattle.transactions.specs.Slots.{Standing, live_at}
use Rattle.transactions.specs.State.{LiveState}

-- the answer says that the call was done, or waits: it has facts
abbrev pub is_done : Answer → Bool
is_done answer = has_facts answer

-- whether a reply of this enlistment is due in a transaction, and this one fits
abbrev pub is_due : EnlNo → Reply → LiveState → Bool
is_due e r x = is_some (due_of (half x.tx.world).seen e.value) && fits_due r (due_of (half x.tx.world).seen e.value)

-- The call was entered in the transaction of this number, on this line, and answered so.
pub record CallsAt {D : Type 0} (faults : D → ℕ) (log : LogState D) (t : TxId) (c : Call) (line : ℕ) (answer : Answer) (old new : List LiveState) : Type 0 where
  pub before : LiveState
  pub after : LiveState
  pub was : live_at t old ≡ Some before
  pub now : live_at t new ≡ Some after
  pub called : IsCalled faults log c line answer before after

-- What holds of the run of a transaction of this number, where one goes on.
abbrev pub HasRunAt : {D C : Type 0} → Bool → (D → List ℕ → Type 0) → TxId → Standing D C → Type 0
HasRunAt honest image t m = (x : LiveState) → live_at t m.lives ≡ Some x → HasRun honest image m.log x

-- Where a transaction of this number goes on, its objects heard what came of it, and no other's record of the log was touched.
abbrev pub HeardAt : {D C O : Type 0} → Bool → (D → List ℕ → Type 0) → (O → Enlistment → Note → Option Reply → O → Type 0) → List Given → TxId → Standing D C → Standing D C → O → O → Type 0
HeardAt honest image gives given t old new a b =
    (x : LiveState) → live_at t old.lives ≡ Some x → (z : LiveState) × (live_at t new.lives ≡ Some z) × IsHeard gives given x z a b
    × KeepsRecords honest image (identifier_of_id t) old.log new.log

-- Where no transaction of this number goes on, none does afterwards; the log is as it was, and the objects heard nothing.
abbrev pub SparesNone : {D C O : Type 0} → TxId → Standing D C → Standing D C → O → O → Type 0
SparesNone t old new a b = live_at t old.lives ≡ None → (live_at t new.lives ≡ None) × (new.log ≡ old.log) × (b ≡ a)

-- Where a transaction of this number goes on, it did this next.
abbrev pub AdvancesAt : Option Event → TxId → List LiveState → List LiveState → Type 0
AdvancesAt e t old new = (x : LiveState) → live_at t old ≡ Some x → (y : LiveState) × (live_at t new ≡ Some y) × Advances e x y

-- the call was entered on some line, and was done or waits
abbrev pub Called : {D : Type 0} → (D → ℕ) → LogState D → TxId → Call → List LiveState → List LiveState → Type 0
Called faults log t c old new = (line : ℕ) × (answer : Answer) × CallsAt faults log t c line answer old new × (is_done answer ≡ true)

-- the call was entered on some line, and was refused with this answer
abbrev pub IsRefused : {D : Type 0} → (D → ℕ) → LogState D → TxId → Call → Answer → List LiveState → List LiveState → Type 0
IsRefused faults log t c answer old new = (line : ℕ) × CallsAt faults log t c line answer old new × (is_done answer ≡ false)

-- Why a call of a transaction isn't entered: memory ran out; no transaction of this number goes on; or all numbers of lines are used.
abbrev pub MayFail : TxId → List LiveState → TxError → Type 0
MayFail t old e = (e ≡ Memory) ⊎ ((e ≡ Refused NoSuch) × (live_at t old ≡ None)) ⊎ ((e ≡ Many) × (x : LiveState) × (live_at t old ≡ Some x) × (x.lines ≡ 2 ^ 32 - 1))

-- Why there is no identifier: the call wasn't entered, and nothing changed; or it was answered so, which is neither an identifier nor that it waits.
abbrev pub IsUnidentified : {D : Type 0} → (D → ℕ) → LogState D → TxId → List LiveState → List LiveState → TxError → Type 0
IsUnidentified faults log t old new e =
    (MayFail t old e × (live_at t new ≡ live_at t old))
    ⊎ ((answer : Answer) × (e ≡ Refused answer) × (answer ≢ Wait) × ((id : ℕ) → answer ≢ Id id) × (line : ℕ) × CallsAt faults log t (Marshal t.t) line answer old new)

-- What a call without objects comes to: it was done or waits; or it was refused, with the answer that is given; or it wasn't entered.
abbrev pub Enters : {A D : Type 0} → (D → ℕ) → LogState D → TxId → Call → List LiveState → List LiveState → Result A TxError → Type 0
Enters faults log t c old new (Ok x) = Called faults log t c old new
Enters faults log t c old new (Err e) = (MayFail t old e × (live_at t new ≡ live_at t old)) ⊎ ((answer : Answer) × (e ≡ Refused answer) × IsRefused faults log t c answer old new)

-- The call was done or waits, and the objects heard what came of it.
abbrev pub Goes : {D C O : Type 0} → (D → ℕ) → Bool → (D → List ℕ → Type 0) → (O → Enlistment → Note → Option Reply → O → Type 0) → TxId → Call → Standing D C → Standing D C → O → O → Type 0
Goes faults honest image gives t c old new a b = (mid : List LiveState) × Called faults old.log t c old.lives mid × HeardAt honest image gives [] t (record old { lives = mid }) new a b

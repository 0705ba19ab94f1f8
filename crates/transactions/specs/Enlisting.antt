-- What is enlisted, and which call enlists it.
use Rattle.std.specs.Prelude.{ℕ, ◌≡◌, ◌≤◌, ◌+◌, ◌-◌, ◌^◌, ◌⊎◌, true, false, List, Option, Some, None}
use Rattle.dtx_values.specs.declared.call.Call.{Call}
use Rattle.dtx_values.specs.declared.call.Call.TheVariants.{Durable as DurableCall, Promotable as PromotableCall, Volatile as VolatileCall, Clone as CloneCall}
use Rattle.dtx_values.specs.declared.entry.Answer.{Answer}
use Rattle.dtx_values.specs.declared.entry.Answer.TheVariants.{False, NoSuch, Wait}
use Rattle.dtx_values.specs.declared.entry.Entry.TheVariants.{Answered}
use Rattle.dtx_values.specs.declared.number.CloneNo.{CloneNo}
use Rattle.dtx_values.specs.declared.number.EnlNo.{EnlNo}
use Rattle.dtx_values.specs.declared.number.TheConstants.CloneNo.{MAX as CLONES}
use Rattle.dtx_values.specs.declared.number.TheConstants.EnlNo.{MAX as ENLISTMENTS}
use Rattle.dtx_values.specs.declared.number.TxNo.{TxNo}
use Rattle.dtx_values.specs.declared.tx_id.TxId.{TxId}
use Rattle.dtx_values.specs.declared.script.Support.TheVariants.{SinglePhase, TwoPhase}
use Rattle.dtx_values.specs.declared.words.CloneKind.{CloneKind}
use Rattle.dtx_values.specs.declared.words.Outcome.TheVariants.{Committed}
use Rattle.dtx_values.specs.declared.words.Vote.TheVariants.{Yes}
use Rattle.coordinator_log.specs.State.{LogState}
use Rattle.transactions.specs.declared.error.TxError.{TxError}
use Rattle.transactions.specs.declared.error.TxError.TheVariants.{Many, Memory, Refused}
use Rattle.resource_managers.specs.declared.enlistment.Enlistment.{Enlistment}
use Rattle.resource_managers.specs.Pairs.{enlistment}
use Rattle.transactions.specs.declared.handle.Phases.TheVariants.{Two, Single}
use Rattle.transactions.specs.declared.kind.Kind.{Kind}
use Rattle.transactions.specs.declared.kind.Kind.TheVariants.{Durable, Promotable, Volatile}
use Rattle.transactions.specs.Answered.{Has}
use Rattle.transactions.specs.Calling.{IsCalled}
use Rattle.transactions.specs.Doing.{is_done}
use Rattle.transactions.specs.Slots.{live_at}
use Rattle.transactions.specs.State.{LiveState, past}

-- The call that enlists it in transaction t under this number. The plans of its replies are never used: the objects reply.
abbrev pub enlists : TxNo → EnlNo → Kind → Call
enlists t e (Volatile k) = VolatileCall t e k (Some Yes)
enlists t e (Durable r Two) = DurableCall t e r (TwoPhase (Some Yes))
enlists t e (Durable r Single) = DurableCall t e r (SinglePhase (Some Yes) (Some Committed))
enlists t e (Promotable r) = PromotableCall t e r (Some Yes) (Some Committed) (Some true)

-- The call was entered that enlists it under the next number.
pub record Enlists {D : Type 0} (faults : D → ℕ) (log : LogState D) (k : Kind) (e : EnlNo) (line : ℕ) (answer : Answer) (old new : LiveState) : Type 0 where
  pub next : e.value ≡ old.enlisted + 1
  pub called : IsCalled faults log (enlists old.number.t e k) line answer (record old { enlisted = e.value }) new

-- So it was in the transaction of this number.
pub record EnlistsAt {D : Type 0} (faults : D → ℕ) (log : LogState D) (t : TxId) (k : Kind) (e : EnlNo) (line : ℕ) (answer : Answer) (old new : List LiveState) : Type 0 where
  pub before : LiveState
  pub after : LiveState
  pub was : live_at t old ≡ Some before
  pub now : live_at t new ≡ Some after
  pub numbered : before.number ≡ t
  pub enlists : Enlists faults log k e line answer before after

-- The call was entered that makes a clone of this kind under the next number.
pub record Clones {D : Type 0} (faults : D → ℕ) (log : LogState D) (k : CloneKind) (c : CloneNo) (answer : Answer) (old new : LiveState) : Type 0 where
  pub line : ℕ
  pub next : c.value ≡ old.cloned + 1
  pub called : IsCalled faults log (CloneCall old.number.t c k) line answer (record old { cloned = c.value }) new

-- So it was in the transaction of this number.
pub record ClonesAt {D : Type 0} (faults : D → ℕ) (log : LogState D) (t : TxId) (k : CloneKind) (c : CloneNo) (answer : Answer) (old new : List LiveState) : Type 0 where
  pub before : LiveState
  pub after : LiveState
  pub was : live_at t old ≡ Some before
  pub now : live_at t new ≡ Some after
  pub numbered : before.number ≡ t
  pub clones : Clones faults log k c answer before after

-- The call of this line was answered so: at once, or where it had to wait, by an entry of the history.
abbrev pub IsAnswered : TxId → ℕ → Answer → Answer → List LiveState → Type 0
IsAnswered t line first answer new = (first ≡ answer) ⊎ ((first ≡ Wait) × (z : LiveState) × (live_at t new ≡ Some z) × Has (Answered line answer) (past z))

-- A promotable enlistment was made under this number, where the answer says so; none was, where the answer is that another resource is enlisted.
abbrev pub IsTaken : TxId → EnlNo → Answer → Option Enlistment → Type 0
IsTaken t e answer (Some x) = (x ≡ enlistment t e) × (is_done answer ≡ true)
IsTaken t e answer None = answer ≡ False

-- Why a call that makes something isn't entered: memory ran out; no transaction of this number goes on; or all numbers are used, of lines or of what it makes, as is said of the transaction.
abbrev pub MayNotMake : (LiveState → Type 0) → TxId → List LiveState → TxError → Type 0
MayNotMake all_used t old e = (e ≡ Memory) ⊎ ((e ≡ Refused NoSuch) × (live_at t old ≡ None)) ⊎ ((e ≡ Many) × (x : LiveState) × (live_at t old ≡ Some x) × (all_used x ⊎ (x.lines ≡ 2 ^ 32 - 1)))

-- why the call that enlists something isn't entered
abbrev pub MayNotEnlist : TxId → List LiveState → TxError → Type 0
MayNotEnlist t old e = MayNotMake (λ x. ENLISTMENTS ≤ x.enlisted) t old e

-- why the call that makes a clone isn't entered
abbrev pub MayNotClone : TxId → List LiveState → TxError → Type 0
MayNotClone t old e = MayNotMake (λ x. CLONES ≤ x.cloned) t old e

-- Nothing changed in the transaction of this number but how many of its enlistments are numbered.
abbrev pub NumbersEnlistments : TxId → List LiveState → List LiveState → Type 0
NumbersEnlistments t old new = (x : LiveState) → live_at t old ≡ Some x → (y : LiveState) × (live_at t new ≡ Some y) × (y ≡ record x { enlisted = y.enlisted })

-- Nothing changed in the transaction of this number but how many of its clones are numbered.
abbrev pub NumbersClones : TxId → List LiveState → List LiveState → Type 0
NumbersClones t old new = (x : LiveState) → live_at t old ≡ Some x → (y : LiveState) × (live_at t new ≡ Some y) × (y ≡ record x { cloned = y.cloned })

-- Nothing was enlisted: the call wasn't entered; or it was refused, with the answer that is given.
abbrev pub IsNotEnlisted : {D : Type 0} → (D → ℕ) → LogState D → TxId → Kind → List LiveState → List LiveState → TxError → Type 0
IsNotEnlisted faults log t k old new e =
    (MayNotEnlist t old e × NumbersEnlistments t old new) ⊎ ((number : EnlNo) × (line : ℕ) × (a : Answer) × (e ≡ Refused a) × EnlistsAt faults log t k number line a old new × (is_done a ≡ false))

-- No clone was made: the call wasn't entered; or it was refused, with the answer that is given.
abbrev pub IsNotCloned : {D : Type 0} → (D → ℕ) → LogState D → TxId → CloneKind → List LiveState → List LiveState → TxError → Type 0
IsNotCloned faults log t k old new e =
    (MayNotClone t old e × NumbersClones t old new) ⊎ ((c : CloneNo) × (a : Answer) × (e ≡ Refused a) × ClonesAt faults log t k c a old new × (is_done a ≡ false))

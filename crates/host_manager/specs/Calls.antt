-- What the calls of a transaction come to, by its number for good.
use Rattle.std.specs.Prelude.{ℕ, ◌≡◌, ◌⊎◌, true, Option, Some, None, Result, Ok, Err}
use Rattle.dtx_values.specs.TxIds.{number_of}
use Rattle.dtx_values.specs.declared.call.Call.{Call}
use Rattle.dtx_values.specs.declared.call.Call.TheVariants.{Commit as CommitCall, Complete as CompleteCall, Gone, Marshal, Rollback as RollbackCall, Tick as TickCall}
use Rattle.dtx_values.specs.declared.entry.Answer.{Answer}
use Rattle.dtx_values.specs.declared.entry.Answer.TheVariants.{False, Id, NoSuch, Wait}
use Rattle.dtx_values.specs.declared.number.CloneNo.{CloneNo}
use Rattle.dtx_values.specs.declared.number.EnlNo.{EnlNo}
use Rattle.dtx_values.specs.declared.number.RmNo.{RmNo}
use Rattle.dtx_values.specs.declared.tx_id.TxId.{TxId}
use Rattle.dtx_values.specs.declared.words.CloneKind.{CloneKind}
use Rattle.host_manager.specs.Host.{HostView, IsNobody, KeepsManager, faults}
use Rattle.host_manager.specs.declared.host_call.HostCall.{HostCall}
use Rattle.host_manager.specs.declared.host_call.HostCall.TheVariants.{Commit, Complete, Lost, Rollback, Tick}
use Rattle.transactions.specs.declared.error.TxError.{TxError}
use Rattle.transactions.specs.declared.error.TxError.TheVariants.{Refused}
use Rattle.transactions.specs.declared.kind.Kind.{Kind}
use Rattle.transactions.specs.declared.kind.Kind.TheVariants.{Promotable}
use Rattle.transactions.specs.Doing.{CallsAt, Enters, IsUnidentified, is_done}
use Rattle.transactions.specs.Enlisting.{ClonesAt, EnlistsAt, IsNotCloned, IsNotEnlisted}
use Rattle.transactions.specs.Slots.{AreSame}

-- A call came to this in the transaction of this number: every other transaction is as it was, and so is the rest.
pub record On (number : ℕ) (did : TxId → HostView → HostView → Type 0) (old new : HostView) : Type 0 where
  pub transaction : TxId
  pub named : number_of transaction ≡ number
  pub does : did transaction old new
  pub others : AreSame transaction old.manager.lives new.manager.lives
  pub rest : KeepsManager old new

-- no transaction of this number goes on, and nothing was done
abbrev pub ByNobody : ℕ → HostView → HostView → Type 0
ByNobody number old new = IsNobody number old × (new ≡ old)

-- A call came to this in the transaction of this number; or none of this number goes on, and the error says so.
abbrev pub ByNumber : {A : Type 0} → ℕ → (TxId → HostView → HostView → Type 0) → HostView → HostView → Result A TxError → Type 0
ByNumber number did old new (Ok x) = On number did old new
ByNumber number did old new (Err e) = On number did old new ⊎ ((e ≡ Refused NoSuch) × ByNobody number old new)

-- what is entered
abbrev pub entered_by : HostCall → TxId → Call
entered_by (Complete clone) t = CompleteCall clone
entered_by Commit t = CommitCall t.t
entered_by Rollback t = RollbackCall t.t
entered_by (Tick milliseconds) t = TickCall t.t milliseconds
entered_by (Lost e) t = Gone e

-- The call was entered in the transaction of this number.
abbrev pub EntersBy : {A : Type 0} → ℕ → (TxId → Call) → HostView → HostView → Result A TxError → Type 0
EntersBy number call old new result = ByNumber number (λ t a b. Enters faults a.manager.log t (call t) a.manager.lives b.manager.lives result) old new result

-- Something was enlisted in a transaction under this number; or why it wasn't.
abbrev pub EnlistsIn : Kind → Result EnlNo TxError → TxId → HostView → HostView → Type 0
EnlistsIn k (Ok e) t a b = (line : ℕ) × (answer : Answer) × EnlistsAt faults a.manager.log t k e line answer a.manager.lives b.manager.lives × (is_done answer ≡ true)
EnlistsIn k (Err x) t a b = IsNotEnlisted faults a.manager.log t k a.manager.lives b.manager.lives x

-- So it was in the transaction of this number.
abbrev pub EnlistsBy : ℕ → Kind → HostView → HostView → Result EnlNo TxError → Type 0
EnlistsBy number k old new result = ByNumber number (EnlistsIn k result) old new result

-- A resource that owns the commit was enlisted under this number; or another one is enlisted already, as the transaction answered; or why it wasn't.
abbrev pub TakesIn : RmNo → Result (Option EnlNo) TxError → TxId → HostView → HostView → Type 0
TakesIn rm (Ok (Some e)) t a b = (line : ℕ) × (answer : Answer) × EnlistsAt faults a.manager.log t (Promotable rm) e line answer a.manager.lives b.manager.lives × (is_done answer ≡ true)
TakesIn rm (Ok None) t a b = (e : EnlNo) × (line : ℕ) × EnlistsAt faults a.manager.log t (Promotable rm) e line False a.manager.lives b.manager.lives
TakesIn rm (Err x) t a b = IsNotEnlisted faults a.manager.log t (Promotable rm) a.manager.lives b.manager.lives x

-- So it was in the transaction of this number.
abbrev pub TakesBy : ℕ → RmNo → HostView → HostView → Result (Option EnlNo) TxError → Type 0
TakesBy number rm old new result = ByNumber number (TakesIn rm result) old new result

-- A clone was made under this number; or why it wasn't.
abbrev pub ClonesIn : CloneKind → Result CloneNo TxError → TxId → HostView → HostView → Type 0
ClonesIn k (Ok c) t a b = (answer : Answer) × ClonesAt faults a.manager.log t k c answer a.manager.lives b.manager.lives × (is_done answer ≡ true)
ClonesIn k (Err x) t a b = IsNotCloned faults a.manager.log t k a.manager.lives b.manager.lives x

-- So it was in the transaction of this number.
abbrev pub ClonesBy : ℕ → CloneKind → HostView → HostView → Result CloneNo TxError → Type 0
ClonesBy number k old new result = ByNumber number (ClonesIn k result) old new result

-- The call that asks for the identifier was answered by it; or it waits; or why there is none.
abbrev pub IdentifiesIn : Result (Option ℕ) TxError → TxId → HostView → HostView → Type 0
IdentifiesIn (Ok (Some id)) t a b = (line : ℕ) × CallsAt faults a.manager.log t (Marshal t.t) line (Id id) a.manager.lives b.manager.lives
IdentifiesIn (Ok None) t a b = (line : ℕ) × CallsAt faults a.manager.log t (Marshal t.t) line Wait a.manager.lives b.manager.lives
IdentifiesIn (Err x) t a b = IsUnidentified faults a.manager.log t a.manager.lives b.manager.lives x

-- So it was in the transaction of this number.
abbrev pub IdentifiesBy : ℕ → HostView → HostView → Result (Option ℕ) TxError → Type 0
IdentifiesBy number old new result = ByNumber number (IdentifiesIn result) old new result

-- What comes next in a transaction, and its end.
use Rattle.std.specs.Prelude.{ℕ, ◌≡◌, ◌≢◌, ◌⊎◌, ◌∷◌, [], Bool, true, false, List, Option, Some, None, Result, Ok, Err, IsTrue, length}
use Rattle.dtx_values.specs.TxIds.{number_of}
use Rattle.dtx_values.specs.declared.entry.Answer.TheVariants.{NoSuch}
use Rattle.dtx_values.specs.declared.entry.Entry.{Entry}
use Rattle.dtx_values.specs.declared.note.Reply.{Reply}
use Rattle.dtx_values.specs.declared.number.EnlNo.{EnlNo}
use Rattle.dtx_values.specs.declared.tx_id.TxId.{TxId}
use Rattle.dtx_values.specs.declared.words.Outcome.{Outcome}
use Rattle.dtx_model.specs.Replies.{reply_entries}
use Rattle.dtx_model.specs.Words.{onto}
use Rattle.dtx_model.specs.World.{half}
use Rattle.host_manager.specs.Calls.{ByNobody, On}
use Rattle.host_manager.specs.Host.{HostView, IsLawful, IsNobody, KeepsDesk, is_quiet}
use Rattle.host_manager.specs.declared.error.HostError.{HostError}
use Rattle.host_manager.specs.declared.error.HostError.TheVariants.{Call, Disk as FirstDisk, Live, Unasked}
use Rattle.transactions.specs.declared.error.TxError.{TxError}
use Rattle.transactions.specs.declared.error.TxError.TheVariants.{Memory, Refused}
use Rattle.transactions.specs.declared.event.Next.{Next}
use Rattle.transactions.specs.declared.event.Next.TheVariants.{Disk, Nothing}
use Rattle.transactions.specs.Doing.{AdvancesAt, is_due}
use Rattle.transactions.specs.Ending.{IsOver}
use Rattle.transactions.specs.Hearing.{Writes, found_in}
use Rattle.transactions.specs.Slots.{AreSame, KeepsTime, live_at}
use Rattle.transactions.specs.State.{LiveState, past}
use Rattle.transactions.specs.Telling.{told}
use Rattle.transactions.specs.Waiting.{AllAsked}

-- The transaction of this number went on until the host is to do something: its history went on with no reply, and the next entry was heard that says something to somebody.
-- It is handed out only where nothing is asked of the disk; and nothing comes next only where nothing is asked of the disk, all was heard, and each pending step is a reply
-- that was asked for. Where something was asked of the disk before, nothing was done. What was handed out of it so far obeys the law of one outcome.
pub record Hands (number : ℕ) (old new : HostView) (n : Next) : Type 0 where
  pub transaction : TxId
  pub named : number_of transaction ≡ number
  pub comes : AdvancesAt (found_in n) transaction old.manager.lives new.manager.lives
  pub quiet : n ≢ Disk → IsTrue (is_quiet new)
  pub disk : n ≡ Disk → is_quiet new ≡ false
  pub busy : is_quiet old ≡ false → new ≡ old
  pub all : n ≡ Nothing → (y : LiveState) → live_at transaction new.manager.lives ≡ Some y → (y.heard ≡ length (past y)) × AllAsked y.tx.world
  pub lawful : IsLawful transaction new.manager.lives
  pub others : AreSame transaction old.manager.lives new.manager.lives
  pub time : KeepsTime old.manager new.manager
  pub desk : KeepsDesk old new

-- What comes next was handed out; or memory ran out, and the transaction went on with no reply, and nothing was heard that says something to somebody; or no transaction of this
-- number goes on.
abbrev pub GoesOn : ℕ → HostView → HostView → Result Next TxError → Type 0
GoesOn number old new (Ok n) = Hands number old new n
GoesOn number old new (Err e) =
    ((e ≡ Memory) × (t : TxId) × (number_of t ≡ number) × AdvancesAt None t old.manager.lives new.manager.lives × AreSame t old.manager.lives new.manager.lives × KeepsTime old.manager new.manager × KeepsDesk old new)
    ⊎ ((e ≡ Refused NoSuch) × ByNobody number old new)

-- The reply was due, and was written; and what follows at once.
abbrev pub RepliesAt : EnlNo → Reply → TxId → HostView → HostView → Type 0
RepliesAt e r t a b =
    (x : LiveState) → live_at t a.manager.lives ≡ Some x
    → (is_due e r x ≡ true) × (y : LiveState) × (live_at t b.manager.lives ≡ Some y) × Writes ((e, r) ∷ []) x y × (y ≡ record x { tx = y.tx })
    × (es : List Entry) × (past y ≡ onto (onto (past x) (reply_entries (half x.tx.world) e r)) es)

-- nothing was written in the transaction
abbrev pub Stays : TxId → HostView → HostView → Type 0
Stays t a b = live_at t b.manager.lives ≡ live_at t a.manager.lives

-- the reply wasn't due in it
abbrev pub NotDue : EnlNo → Reply → TxId → HostView → HostView → Type 0
NotDue e r t a b = Stays t a b × ((x : LiveState) → live_at t a.manager.lives ≡ Some x → is_due e r x ≡ false)

-- A reply was given that was due; or it wasn't due; or memory ran out; or no transaction of this number goes on.
abbrev pub Replies : ℕ → EnlNo → Reply → HostView → HostView → Result (Unit {0}) HostError → Type 0
Replies number e r old new (Ok x) = On number (RepliesAt e r) old new
Replies number e r old new (Err Unasked) = On number (NotDue e r) old new
Replies number e r old new (Err (Call x)) = ((x ≡ Memory) × On number Stays old new) ⊎ ((x ≡ Refused NoSuch) × ByNobody number old new)
Replies number e r old new (Err _) = ⊥

-- What the client was told, in a transaction that obeys the law of one outcome, where nothing is asked of the disk.
abbrev pub SaysTold : ℕ → HostView → Result (Option Outcome) HostError → Type 0
SaysTold number m (Ok o) =
    (is_quiet m ≡ true) × (t : TxId) × (number_of t ≡ number) × (live_at t m.manager.lives ≢ None) × ((x : LiveState) → live_at t m.manager.lives ≡ Some x → o ≡ told x) × IsLawful t m.manager.lives
SaysTold number m (Err FirstDisk) = is_quiet m ≡ false
SaysTold number m (Err (Call e)) = (is_quiet m ≡ true) × (e ≡ Refused NoSuch) × IsNobody number m
SaysTold number m (Err _) = ⊥

-- the transaction is over, and was taken off
abbrev pub EndsAt : TxId → HostView → HostView → Type 0
EndsAt t a b = ((x : LiveState) × (live_at t a.manager.lives ≡ Some x) × IsOver x) × (live_at t b.manager.lives ≡ None)

-- A transaction that is over was taken off; or it goes on, and nothing was done; or no transaction of this number goes on.
abbrev pub Ends : ℕ → HostView → HostView → Result (Unit {0}) HostError → Type 0
Ends number old new (Ok x) = On number EndsAt old new
Ends number old new (Err Live) =
    (new ≡ old) × (t : TxId) × (number_of t ≡ number) × (live_at t old.manager.lives ≢ None) × ((x : LiveState) → live_at t old.manager.lives ≡ Some x → IsOver x → ⊥)
Ends number old new (Err (Call e)) = (e ≡ Refused NoSuch) × ByNobody number old new
Ends number old new (Err _) = ⊥

-- All or nothing in a book.
use Rattle.std.specs.Prelude.{◌≡◌, ℕ, ◌+◌, ◌*◌, ◌<◌, ◌-◌, ◌^◌, Bool, true, false, List, [], Option, Some, None, IsTrue}
use Rattle.dtx_values.specs.TxIds.{number_of}
use Rattle.dtx_values.specs.declared.tx_id.TxId.{TxId}
use Rattle.resource_managers.specs.declared.enlistment.Enlistment.{Enlistment}
use Rattle.dtx_model.specs.Log.{CommitRecord}
use Rattle.coordinator_log.specs.Crash.{AllHold}
use Rattle.coordinator_log.specs.Slots.{open_records as logged}
use Rattle.log_epochs.specs.Epochs.{epoch_of}
use Rattle.recovery_laws.specs.Whole.{Site, has_here, is_whole}
use Rattle.all_or_nothing.specs.Whole.{IsAllOrNothing}
use Rattle.kv_holding.specs.Holding.{IsAsStored}
use Rattle.transactions.specs.Logged.{AreInOrder, MayHold}
use Rattle.transactions.specs.Slots.{live_at}
use Rattle.transactions.specs.State.{LiveState}
use Rattle.ledger_book.specs.Holding.{stores_keep, stores_leave, stores_place, stores_sound}
use Rattle.ledger_book.specs.Recovered.{sites_of}
use Rattle.ledger_book.specs.declared.account.Side.{Side}
use Rattle.ledger_book.specs.declared.account.Side.TheVariants.{Left, Right}
use Rattle.ledger_book.specs.declared.book.Book.{Book}
use Rattle.ledger_book.specs.declared.stores.Stores.{Stores}

-- All or nothing, of the manager and the stores of a book: whatever a crash may leave of its three disks, each transaction is whole in it; and so it stays, by what else is known of those that go on.
abbrev pub IsWholeBook : {D C : Type 0} → Bool → (D → List ℕ → Type 0) → Book D C → Type 0
IsWholeBook honest image b = IsAllOrNothing image stores_place (stores_keep honest image) (stores_leave honest image) (stores_sound honest image) b.manager b.stores

-- what is enlisted there, if anything is, is of this transaction
abbrev pub IsOfTransaction : TxId → Option Enlistment → Type 0
IsOfTransaction t o = (e : Enlistment) → o ≡ Some e → e.transaction ≡ t

-- this store may be enlisted: the left one where neither is, the right one where it isn't
abbrev pub AreFree : {D : Type 0} → Side → Stores D → Type 0
AreFree Left o = (o.left_as ≡ None) × (o.right_as ≡ None)
AreFree Right o = o.right_as ≡ None

-- A book within the write of a transaction: all or nothing holds, the transaction goes on, and no store is enlisted in another one.
pub record IsWriting {D C : Type 0} (honest : Bool) (image : D → List ℕ → Type 0) (t : TxId) (b : Book D C) : Type 0 where
  pub whole : IsWholeBook honest image b
  pub transaction : LiveState
  pub on : live_at t b.manager.lives ≡ Some transaction
  pub left : IsOfTransaction t b.stores.left_as
  pub right : IsOfTransaction t b.stores.right_as

-- Whatever a crash may leave of the three disks of a book, each transaction is whole in it, and the records of the log are in order.
pub record LeavesWhole {D C : Type 0} (honest : Bool) (image : D → List ℕ → Type 0) (b : Book D C) : Type 0 where
  pub whole : (rs : List CommitRecord) → MayHold image b.manager.log rs → (ss : List Site) → stores_leave honest image b.stores ss → (t : TxId) → is_whole rs ss (number_of t) ≡ true
  pub ordered : (rs : List CommitRecord) → MayHold image b.manager.log rs → AreInOrder rs

-- What a book is when it is opened: no transaction goes on, and no store is enlisted; the log is up, and all numbers of its epoch count as given; each disk has what is in memory; and no call of this process
-- prepared any of it. The counts of failed calls aren't at their greatest.
pub record IsFound {D C : Type 0} (honest : Bool) (image : D → List ℕ → Type 0) (faults : D → ℕ) (b : Book D C) : Type 0 where
  pub lives : b.manager.lives ≡ []
  pub free : AreFree Left b.stores
  pub up : IsTrue b.manager.log.is_up
  pub last : b.manager.last ≡ 65536 * epoch_of (logged b.manager.log.slots) + 256
  pub images : AllHold (image b.manager.log.disk) (logged b.manager.log.slots)
  pub left : IsAsStored honest image b.stores.left
  pub right : IsAsStored honest image b.stores.right
  pub early : (n : ℕ) → has_here n (sites_of b.stores.left b.stores.right) ≡ false
  pub counted : (faults b.stores.left.disk < 2 ^ 64 - 1) × (faults b.stores.right.disk < 2 ^ 64 - 1)

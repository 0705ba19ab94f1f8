-- The recovery of a book, at both of its stores alike.
use Rattle.std.specs.Prelude.{◌≡◌, ◌⊎◌, ◌++◌, ◌<◌, ◌-◌, ◌^◌, ℕ, Bool, true, false, List, [], ◌∷◌, None, IsFalse, IsTrue, length}
use Rattle.dtx_values.specs.declared.number.RmNo.{RmNo}
use Rattle.dtx_model.specs.Log.{CommitRecord}
use Rattle.coordinator_log.specs.Crash.{AllHold as LogHolds}
use Rattle.coordinator_log.specs.Slots.{open_records as logged}
use Rattle.coordinator_log.specs.State.{LogState}
use Rattle.log_epochs.specs.Beginning.{AllAre}
use Rattle.resource_managers.specs.Holding.{Holding}
use Rattle.kv_resource.specs.Held.{MayLeave, holdings_of}
use Rattle.kv_resource.specs.Images.{AllHold}
use Rattle.kv_resource.specs.Store.{KvState, open_records}
use Rattle.recovery_laws.specs.Finding.{settled}
use Rattle.recovery_laws.specs.Whole.{IsEnded, Site, has_here, is_whole}
use Rattle.transactions.specs.Recovering.{OnlyFrees}
use Rattle.transactions.specs.Logged.{AreUnique}
use Rattle.transactions.specs.Recovery.{IsFoundPartly, IsOneOf, IsPartly, first_obstacle}
use Rattle.transactions.specs.Slots.{Standing}
use Rattle.transactions.specs.State.{LiveState}

-- what the two stores of a book hold, each at its resource manager
abbrev pub sites_of : {D : Type 0} → KvState D → KvState D → List Site
sites_of left right = record { manager = 1; held = holdings_of left } ∷ record { manager = 2; held = holdings_of right } ∷ []

-- All or nothing: in a log in which no transaction has two records, each transaction of an earlier process that was whole is ended at both stores alike.
abbrev pub AreEnded : {D : Type 0} → List CommitRecord → KvState D → KvState D → KvState D → KvState D → Type 0
AreEnded rs left right left_now right_now = AreUnique rs → (n : ℕ) → is_whole rs (sites_of left right) n ≡ true → has_here n (sites_of left right) ≡ false
    → IsEnded rs (sites_of left right) (sites_of left_now right_now) n

-- What recovery leaves of a store, by these records of the log: the first of what it held are settled, or all; and a crash leaves what one of its steps did.
pub record LeavesStore {D : Type 0} (honest : Bool) (image : D → List ℕ → Type 0) (rs : List CommitRecord) (m : ℕ) (old new : KvState D) : Type 0 where
  pub partly : IsPartly rs m (holdings_of old) (holdings_of new)
  pub images : (hs : List Holding) → MayLeave honest image new hs → MayLeave honest image old hs ⊎ IsFoundPartly rs m (holdings_of old) hs
  pub many : length new.memory.slots ≡ 1024

-- All that a store held in doubt is settled. No call of its disk failed in it, where the count of those isn't at its greatest: so its disk has what it has in memory.
pub record SettlesStore {D : Type 0} (honest : Bool) (image : D → List ℕ → Type 0) (faults : D → ℕ) (rs : List CommitRecord) (m : ℕ) (old new : KvState D) : Type 0 where
  pub settled : holdings_of new ≡ settled rs m (holdings_of old)
  pub up : faults old.disk < 2 ^ 64 - 1 → IsFalse old.memory.stopped → IsFalse new.memory.stopped
  pub images : IsTrue honest → IsFalse new.memory.stopped → AllHold (image new.disk) (open_records new.memory.slots)

-- Records of the log were freed, once the manager recovered, in memory and in what a crash may leave.
pub record FreesFor {D : Type 0} (honest : Bool) (image : D → List ℕ → Type 0) (desk : List RmNo) (xs : List LiveState) (old new : LogState D) : Type 0 where
  pub records : OnlyFrees desk xs (logged old.slots) (logged new.slots)
  pub images : IsTrue honest → IsTrue old.is_up → AllAre (image new.disk) (OnlyFrees desk xs (logged old.slots))

-- What the recovery of one store leaves of it and of the manager, whatever comes of it. The log is as it was; or all that the store held in doubt is settled, and records may be freed.
pub record LeavesOne {D C : Type 0} (honest : Bool) (image : D → List ℕ → Type 0) (faults : D → ℕ) (desk : List RmNo) (rm : RmNo) (m n : Standing D C) (old new : KvState D) : Type 0 where
  pub store : LeavesStore honest image (logged m.log.slots) rm.value old new
  pub rest : n ≡ record m { log = n.log }
  pub log : (n.log ≡ m.log) ⊎ (SettlesStore honest image faults (logged m.log.slots) rm.value old new × FreesFor honest image (desk ++ rm ∷ []) m.lives m.log n.log)

-- What it leaves where it is done: its manager is on the desk from then on; it's one call of recovery; the store held nothing of a later epoch, and all that it held in doubt is settled; records may be freed,
-- and the disk of the log has what is in memory.
pub record EndsOne {D C : Type 0} (honest : Bool) (image : D → List ℕ → Type 0) (faults : D → ℕ) (desk desk_now : List RmNo) (rm : RmNo) (m n : Standing D C) (old new : KvState D) : Type 0 where
  pub added : desk_now ≡ desk ++ rm ∷ []
  pub one : IsOneOf desk rm (logged m.log.slots) (logged n.log.slots)
  pub clear : first_obstacle (logged m.log.slots) m.lives rm.value (holdings_of old) ≡ None
  pub settles : SettlesStore honest image faults (logged m.log.slots) rm.value old new
  pub frees : FreesFor honest image (desk ++ rm ∷ []) m.lives m.log n.log
  pub up : n.log.is_up ≡ m.log.is_up
  pub durable : IsTrue honest → IsTrue m.log.is_up → LogHolds (image n.log.disk) (logged n.log.slots)

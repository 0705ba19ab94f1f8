-- The coordinator's act, and its causes.
use Rattle.std.specs.Prelude.{ℕ, ◌≡◌, true, false, ◌||◌, not, map, filter, Option, Some, None}
use Rattle.dtx_values.specs.RecoveryInfo.{pair_of}
use Rattle.dtx_model.specs.Words.{each}
use Rattle.dtx_model.specs.Promotes.{identifier_of}
use Rattle.dtx_model.specs.Log.{CommitRecord, record_of}
use Rattle.dtx_model.specs.Coordinated.{Coordinated, is_finished, is_prepared, is_ready, is_recorded}
use Rattle.coordinator_core.specs.declared.act.CoreAct.{CoreAct}
use Rattle.coordinator_core.specs.declared.act.CoreAct.TheVariants.{WriteRecord, FreeIt}

-- the record of transaction t: its identifier, and the manager and the number of each enlistment that said PREPARED, in order
abbrev pub record_for : ℕ → Coordinated → CommitRecord
record_for t k = record { id = identifier_of t; enlistments = map (λ d. pair_of (d.manager, d.enlistment)) (filter (λ d. is_prepared d.ballot) k.desks) }

-- the record that the act appends
abbrev pub appended_by : Option CoreAct → Option CommitRecord
appended_by (Some (WriteRecord r)) = Some (record_of r)
appended_by _ = None

-- the identifier whose record the act frees
abbrev pub freed_by : Option CoreAct → Option ℕ
freed_by (Some (FreeIt id)) = Some id
freed_by _ = None

-- why a record is appended: COMMIT and the voter's YES were got, and each enlistment said PREPARED or READONLY; and the coordinator runs
pub record IsVoted (k : Coordinated) : Type 0 where
  pub commit : k.commit ≡ true
  pub yes : k.yes ≡ true
  pub ready : each (λ d. is_ready d.ballot) k.desks ≡ true
  pub runs : k.stopped ≡ false

-- why a record is freed: it stands, and each enlistment that said PREPARED is finished; and the coordinator runs
pub record IsHeard (k : Coordinated) : Type 0 where
  pub stands : is_recorded k.stage ≡ true
  pub finished : each (λ d. not (is_prepared d.ballot) || is_finished k.recovered d) k.desks ≡ true
  pub runs : k.stopped ≡ false

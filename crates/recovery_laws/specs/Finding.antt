-- Recovery across processes: what the log says of what an earlier process left in doubt.
use Rattle.std.specs.Prelude.{ℕ, ◌==◌, ◌/◌, nat_lt, Bool, ◌&&◌, List, Option, Some, None, if◌then◌else◌}
use Rattle.dtx_model.specs.Log.{CommitRecord, first_of}
use Rattle.dtx_model.specs.Promotes.{identifier_of}
use Rattle.dtx_model.specs.Words.{all_of, has}
use Rattle.log_epochs.specs.Epochs.{epoch_of}
use Rattle.resource_managers.specs.Holding.{Holding, is_in_doubt, pair_held, with_mark}
use Rattle.resource_managers.specs.Pairs.{Pair}

-- What the log says of an enlistment in doubt: it committed; it aborted, since no record means abort; or the record of its transaction doesn't name it. Then the record is another log's, or
-- the resource is another manager's.
pub data Finding : Type 0 where
  Commits : Finding
  Aborts : Finding
  IsNotNamed : Finding

-- the record names this enlistment of this manager
abbrev pub names : ℕ → ℕ → CommitRecord → Bool
names manager enlistment r = has (λ p. (manager == p.0) && (enlistment == p.1)) r.enlistments

abbrev pub found_by : ℕ → ℕ → Option CommitRecord → Finding
found_by manager e (Some r) = if names manager e r then Commits else IsNotNamed
found_by manager e None = Aborts

-- what is found of an enlistment of this manager, by the first record of its transaction
unfoldable pub finding_of : List CommitRecord → ℕ → Pair → Finding
finding_of rs manager p = found_by manager p.1 (first_of (identifier_of p.0) rs)

-- what is found of a holding of this manager
abbrev pub finding : List CommitRecord → ℕ → Holding → Finding
finding rs manager h = finding_of rs manager (pair_held h)

-- what is found committed is marked, and what is found aborted is gone
abbrev pub settled_by : Finding → Holding → Option Holding
settled_by Commits h = Some (with_mark h)
settled_by Aborts h = None
settled_by IsNotNamed h = Some h

abbrev pub settled_one : List CommitRecord → ℕ → Holding → Option Holding
settled_one rs manager h = if is_in_doubt h then settled_by (finding rs manager h) h else Some h

-- what a resource of this manager holds after its recovery: what was in doubt is settled, and all else is as it was
abbrev pub settled : List CommitRecord → ℕ → List Holding → List Holding
settled rs manager hs = all_of (settled_one rs manager) hs

-- a holding of a later epoch than the log's: the log was made anew, or is another
abbrev pub is_later : List CommitRecord → Holding → Bool
is_later rs h = nat_lt (epoch_of rs) (h.number / 65536)

-- The recovery of a resource: what keeps it from being recovered, and what becomes of what it holds.
use Rattle.std.specs.Prelude.{ℕ, ◌≡◌, ◌++◌, Bool, true, false, ◌&&◌, not, List, [], ◌∷◌, map, Option, Some, None, Result, Ok, Err, if◌then◌else◌}
use Rattle.dtx_values.specs.declared.words.Outcome.{Outcome}
use Rattle.dtx_values.specs.declared.words.Outcome.TheVariants.{Committed, Aborted}
use Rattle.dtx_values.specs.declared.number.RmNo.{RmNo}
use Rattle.dtx_model.specs.Log.{CommitRecord}
use Rattle.dtx_model.specs.Promotes.{identifier_of}
use Rattle.dtx_model.specs.Words.{all_of}
use Rattle.recovery_laws.specs.OneByOne.{RecoversOne}
use Rattle.recovery_laws.specs.Steps.{at_site}
use Rattle.recovery_laws.specs.Whole.{Site}
use Rattle.recovery_laws.specs.Finding.{Finding, Commits, Aborts, IsNotNamed, finding, is_later, settled}
use Rattle.resource_managers.specs.Holding.{Holding, as_found, is_in_doubt, pair_held}
use Rattle.resource_managers.specs.Pairs.{Pair, pair_of}
use Rattle.transactions.specs.declared.finishing.Found.{Found}
use Rattle.transactions.specs.declared.finishing.Found.TheVariants.{Committed as FoundCommitted, Aborted as FoundAborted, NotNamed as FoundNotNamed}
use Rattle.transactions.specs.declared.recovered.Finished.{Finished}
use Rattle.transactions.specs.declared.recovered.RecoverRefusal.{RecoverRefusal}
use Rattle.transactions.specs.declared.recovered.RecoverRefusal.TheVariants.{Later as LaterRefusal, GoesOn as GoesOnRefusal, NotNamed as NotNamedRefusal, Failed as FailedRefusal, LogStopped as StoppedRefusal}
use Rattle.transactions.specs.declared.recovered.Recovered.{Recovered}
use Rattle.transactions.specs.Logged.{AreUnique}
use Rattle.transactions.specs.Recovering.{has_place}
use Rattle.transactions.specs.State.{LiveState}

-- What keeps a resource from being recovered, by one holding: it is of a later epoch than the log's; it is in doubt, and its transaction goes on here; or it is in doubt, and the record of its
-- transaction doesn't name it.
pub data Obstacle : Type 0 where
  Later : Obstacle
  GoesOn : Obstacle
  NotNamed : Obstacle

-- the record of its transaction doesn't name it
abbrev pub is_not_named : Finding → Bool
is_not_named IsNotNamed = true
is_not_named _ = false

abbrev pub obstacle_to : List CommitRecord → List LiveState → ℕ → Holding → Option Obstacle
obstacle_to rs xs m h =
    if is_later rs h then Some Later else if not (is_in_doubt h) then None else if has_place (identifier_of h.number) xs then Some GoesOn else if is_not_named (finding rs m h) then Some NotNamed else None

abbrev pub or_else : Option Obstacle → Pair → Option (Obstacle × Pair) → Option (Obstacle × Pair)
or_else (Some o) p rest = Some (o, p)
or_else None p rest = rest

-- the first holding that keeps the resource of manager m from being recovered, where the log has these records and these transactions have a place
abbrev pub first_obstacle : List CommitRecord → List LiveState → ℕ → List Holding → Option (Obstacle × Pair)
first_obstacle rs xs m [] = None
first_obstacle rs xs m (h ∷ hs) = or_else (obstacle_to rs xs m h) (pair_held h) (first_obstacle rs xs m hs)

-- what the program says of what was found
abbrev pub finding_told : Found → Finding
finding_told FoundCommitted = Commits
finding_told FoundAborted = Aborts
finding_told FoundNotNamed = IsNotNamed

-- it is in doubt, and the record of its transaction doesn't name it
abbrev pub is_unnamed : List CommitRecord → ℕ → Holding → Bool
is_unnamed rs m h = is_in_doubt h && is_not_named (finding rs m h)

-- the obstacle that a refusal tells
abbrev pub obstacle_in : RecoverRefusal → Option (Obstacle × Pair)
obstacle_in (LaterRefusal e) = Some (Later, pair_of e)
obstacle_in (GoesOnRefusal e) = Some (GoesOn, pair_of e)
obstacle_in (NotNamedRefusal e) = Some (NotNamed, pair_of e)
obstacle_in _ = None

-- Each of the first of these holdings is settled, and the others are as before.
pub record IsPartly (rs : List CommitRecord) (m : ℕ) (old new : List Holding) : Type 0 where
  pub done : List Holding
  pub left : List Holding
  pub were : done ++ left ≡ old
  pub are : new ≡ settled rs m done ++ left

-- A later process finds the first of these holdings settled, and the others as before.
abbrev pub IsFoundPartly : List CommitRecord → ℕ → List Holding → List Holding → Type 0
IsFoundPartly rs m old hs = (now : List Holding) × IsPartly rs m old now × (hs ≡ as_found now)

-- it is finished as committed, where the log says this of it
abbrev pub commits : Finding → Bool
commits Commits = true
commits _ = false

abbrev pub outcome_by_commit : Bool → Outcome
outcome_by_commit b = if b then Committed else Aborted

abbrev pub finish_of : List CommitRecord → ℕ → Holding → Option (Pair × Outcome)
finish_of rs m h = if is_in_doubt h then Some (pair_held h, outcome_by_commit (commits (finding rs m h))) else None

-- what is finished of these holdings, in order, and how
abbrev pub finishes : List CommitRecord → ℕ → List Holding → List (Pair × Outcome)
finishes rs m hs = all_of (finish_of rs m) hs

-- what a recovery tells of one
abbrev pub finish_told : Finished → Pair × Outcome
finish_told f = (pair_of f.enlistment, f.outcome)

-- managers by their numbers
abbrev pub number_of_manager : RmNo → ℕ
number_of_manager m = m.value

-- Of a log in which no transaction has two records, this is one call of recovery, whatever other resources hold, and none has two afterwards: so the law of such calls, one after the other,
-- holds of it.
abbrev pub IsOneOf : List RmNo → RmNo → List CommitRecord → List CommitRecord → Type 0
IsOneOf desk m old new = AreUnique old
    → AreUnique new × ((sites : List Site) → RecoversOne (map number_of_manager desk) m.value (record { records = old; sites = sites }) (record { records = new; sites = at_site (settled old m.value) m.value sites }))

-- a recovery was refused before anything was done
abbrev pub is_early : RecoverRefusal → Bool
is_early FailedRefusal = false
is_early StoppedRefusal = false
is_early _ = true

-- all that was in doubt is finished, whether or not the log is stopped
abbrev pub is_finished : Result Recovered RecoverRefusal → Bool
is_finished (Ok x) = true
is_finished (Err StoppedRefusal) = true
is_finished (Err _) = false

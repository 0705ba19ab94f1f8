-- Recovery one enlistment after another: while something is in doubt, the first is finished by what the log says of it.
use Rattle.std.specs.Prelude.{◌≡◌, ◌+◌, ℕ, Bool, true, false, List, Some, None, count_by}
use Rattle.dtx_model.specs.Log.{CommitRecord}
use Rattle.recovery_laws.specs.Finding.{Aborts, Commits, finding_of, settled}
use Rattle.recovery_laws.specs.Steps.{at_site}
use Rattle.recovery_laws.specs.Whole.{Site, is_whole}
use Rattle.resource_managers.specs.Holding.{Holding, finished, first_in_doubt, is_in_doubt}
use Rattle.resource_managers.specs.Pairs.{Pair}

-- how many are in doubt
abbrev pub doubts : List Holding → ℕ
doubts hs = count_by is_in_doubt hs

-- The law of the loop, at manager m, for the enlistment p. To finish it by what the log says of it changes nothing of what recovery is to make of all that m holds, and keeps each transaction
-- whole that was; each finish of the first in doubt leaves one fewer in doubt; and once none is in doubt, recovery has been made.
pub record IsStepwise : Type 0 where
  pub commits : (rs : List CommitRecord) (m : ℕ) (p : Pair) (hs : List Holding) → finding_of rs m p ≡ Commits → settled rs m (finished true p hs) ≡ settled rs m hs
  pub aborts : (rs : List CommitRecord) (m : ℕ) (p : Pair) (hs : List Holding) → finding_of rs m p ≡ Aborts → settled rs m (finished false p hs) ≡ settled rs m hs
  pub commits_whole : (rs : List CommitRecord) (ss : List Site) (n m : ℕ) (p : Pair) → finding_of rs m p ≡ Commits → is_whole rs ss n ≡ true → is_whole rs (at_site (finished true p) m ss) n ≡ true
  pub aborts_whole : (rs : List CommitRecord) (ss : List Site) (n m : ℕ) (p : Pair) → finding_of rs m p ≡ Aborts → is_whole rs ss n ≡ true → is_whole rs (at_site (finished false p) m ss) n ≡ true
  pub falls : (commit : Bool) (p : Pair) (hs : List Holding) → first_in_doubt hs ≡ Some p → doubts (finished commit p hs) + 1 ≡ doubts hs
  pub ends : (rs : List CommitRecord) (m : ℕ) (hs : List Holding) → first_in_doubt hs ≡ None → settled rs m hs ≡ hs

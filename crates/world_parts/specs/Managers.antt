-- What the calls of managers are answered, by what is kept of a transaction.
use Rattle.std.specs.Prelude.{◌==◌, Bool, ◌&&◌, not, List, find, filter, Option, Result, Ok, Err, if◌then◌else◌}
use Rattle.dtx_values.specs.declared.entry.Answer.{Answer}
use Rattle.dtx_values.specs.declared.entry.Answer.TheVariants.{Fine, NoSuch, Finished, Over, Connected, Stopped}
use Rattle.dtx_values.specs.declared.entry.Entry.{Entry}
use Rattle.dtx_values.specs.declared.message.Info.{Info}
use Rattle.dtx_values.specs.declared.number.RmNo.{RmNo}
use Rattle.dtx_values.specs.Ends.{is_in}
use Rattle.dtx_model.specs.declared.branch.Branch.{Branch}
use Rattle.dtx_model.specs.Coordinated.{Coordinated}
use Rattle.dtx_model.specs.Observed.{Observed}
use Rattle.dtx_model.specs.Words.{has}
use Rattle.reenlist_recovery.specs.declared.refusal.ReenlistRefusal.{ReenlistRefusal}
use Rattle.reenlist_recovery.specs.declared.refusal.ReenlistRefusal.TheVariants.{Finished as FinishedOne, RecoveryOver, Connected as ConnectedOne, Stopped as StoppedOne}
use Rattle.dtx_model.specs.World.{is_connected, is_finished_there, unless_connected}

-- the branch is of this manager
abbrev pub is_by : RmNo → Branch → Bool
is_by r b = r.value == b.manager.value

-- the branch isn't finished, and is connected
abbrev pub is_open_link : Observed → List Entry → Branch → Bool
is_open_link o past b = not (is_finished_there o b.enlistment.value) && is_connected b.enlistment past

-- some branch of the manager was accepted
abbrev pub has_accepted : Observed → RmNo → Bool
has_accepted o r = has (λ b. b.enlisted) (filter (is_by r) o.branches)

-- the first branch of the manager that isn't finished and is connected
abbrev pub first_link : Observed → List Entry → RmNo → Option Branch
first_link o past r = find (is_open_link o past) (filter (is_by r) o.branches)

-- what it is answered that a manager has recovered
abbrev pub recovery_answer : Observed → Coordinated → List Entry → RmNo → Answer
recovery_answer o k past r =
    if not (has_accepted o r) then NoSuch else if is_in r.value k.recovered then Over r else unless_connected (first_link o past r) (if k.stopped then Stopped else Fine)

-- what a `reenlist` is answered that was checked so; its information is that of the transaction's own enlistment
abbrev pub returned : Result Info ReenlistRefusal → Answer
returned (Ok i) = Fine
returned (Err (FinishedOne e)) = Finished
returned (Err (RecoveryOver r)) = Over r
returned (Err (ConnectedOne e)) = Connected e
returned (Err StoppedOne) = Stopped
returned (Err r) = NoSuch

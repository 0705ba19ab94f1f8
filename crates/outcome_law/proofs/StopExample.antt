-- A script freely causes a history in which the log stops where an append may be tried, and one in which a restart then finds no record; both are tied. So the law of stops speaks of histories that there are.
use Rattle.std.proofs.Common.{◌≡◌, true, false, List, ◌∷◌, refl}
use Rattle.dtx_values.specs.declared.entry.Entry.{Entry}
use Rattle.dtx_model.specs.Words.{ever}
use Rattle.dtx_model.specs.Tied.{tied}
use Rattle.dtx_model.specs.Steps.{Restarts, Step, Stops}
use Rattle.dtx_model.specs.Caused.{FreelyCaused, IsCallOf}
use Rattle.dtx_model.proofs.Computing.{model}
use Rattle.dtx_model.proofs.WorkedOutcomes.{commits_lines}
use Rattle.settled_histories.specs.Stopped.{is_record_unknown, restarts_without_evidence}
use Rattle.outcome_law.proofs.CommitExample.{AllMay, made, may_vote, ran, voting}

-- the coordinator got COMMIT, YES and each vote, and the log stops; then it is opened again, and no record is found
abbrev stopping : List Step
stopping = Stops ∷ voting

abbrev restarting : List Step
restarting = Restarts false ∷ stopping

abbrev stopped_history : List Entry
stopped_history = (made stopping).past

abbrev restarted_history : List Entry
restarted_history = (made restarting).past

may_stop : AllMay (IsCallOf commits_lines 1) stopping
unfolding model
may_stop = (may_vote, refl)

may_restart : AllMay (IsCallOf commits_lines 1) restarting
unfolding model
may_restart = (may_stop, refl)

stops_freely : FreelyCaused (IsCallOf commits_lines 1) 1 stopped_history
stops_freely = ((made stopping).calls, (stopping, ran (IsCallOf commits_lines 1) stopping may_stop))

restarts_freely : FreelyCaused (IsCallOf commits_lines 1) 1 restarted_history
restarts_freely = ((made restarting).calls, (restarting, ran (IsCallOf commits_lines 1) restarting may_restart))

stopped_tied : tied stopped_history ≡ true
unfolding model
stopped_tied = refl

restarted_tied : tied restarted_history ≡ true
unfolding model
restarted_tied = refl

-- after the stop it isn't known whether the record is there
stopped_unknown : is_record_unknown stopped_history ≡ true
unfolding model
stopped_unknown = refl

-- and the restart finds none, without evidence before it
restarted_open : ever restarts_without_evidence restarted_history ≡ true
unfolding model
restarted_open = refl

-- False traces of runs on threads, each refused: at the log stands what no events write there, or a call of a line before `par` doesn't come first. Each stands oldest first.
use Rattle.std.proofs.Common.{◌≡◌, ℕ, Bool, true, false, List, [], ◌∷◌, refl, subst}
use Rattle.std.specs.Prelude.{Result, Ok, Err}
use Rattle.dtx_values.specs.declared.Image.TheVariants.{Lose}
use Rattle.dtx_values.specs.declared.entry.Answer.TheVariants.{Fine, NoSuch}
use Rattle.dtx_values.specs.declared.entry.Entry.{Entry}
use Rattle.dtx_values.specs.declared.entry.Entry.TheVariants.{Called, LogWord, Stopped}
use Rattle.dtx_values.specs.declared.entry.LogNote.TheVariants.{Opened}
use Rattle.dtx_values.specs.declared.number.ActorNo.{ActorNo}
use Rattle.dtx_values.specs.declared.script.Body.TheVariants.{Begin, Par, Restart, Status, Stop}
use Rattle.dtx_values.specs.declared.script.Line.{Line}
use Rattle.dtx_values.specs.declared.trace.Place.TheVariants.{Log, Transaction}
use Rattle.dtx_values.specs.declared.words.Timeout.TheVariants.{Default}
use Rattle.dtx_model.specs.AtLog.{is_up_by}
use Rattle.dtx_model.specs.Traces.{Placed}
use Rattle.dtx_model.proofs.Cast.{a1, a2, says, t1}
use Rattle.coordinator_log.specs.declared.refusal.LogRefusal.{LogRefusal}
use Rattle.coordinator_log.specs.declared.refusal.LogRefusal.TheVariants as Refusal
use Rattle.turn_parts.specs.LogEvents.{Arms, CameInTurn, Halts, IsLogHistory, Opens}
use Rattle.turn_parts.specs.Reopening.{restarted}
use Rattle.turn_parts.proofs.FalseLogs.{answered_nosuch, opened_by_none, restarts_nothing}
use Rattle.thread_runs.specs.Run.{IsRunOnThreads}

-- a restart is answered `nosuch`, and nothing comes of it
pub restart_answered_nosuch : (k from to : ℕ) → IsRunOnThreads (says a1 Restart ∷ []) k from to ((Log, Called 1 a1 NoSuch) ∷ []) → ⊥
restart_answered_nosuch k from to run = answered_nosuch (says a1 Restart ∷ []) run.history.at_log

-- a restart is answered ok, and does nothing
pub restart_without_effect : (k from to : ℕ) → IsRunOnThreads (says a1 Restart ∷ []) k from to ((Log, Called 1 a1 Fine) ∷ []) → ⊥
restart_without_effect k from to run = restarts_nothing (says a1 Restart ∷ []) run.history.at_log

-- the log is opened, and no line restarts it
pub opened_alone : (k from to : ℕ) → IsRunOnThreads [] k from to ((Log, LogWord (Opened 7)) ∷ []) → ⊥
opened_alone k from to run = opened_by_none [] run.history.at_log

-- `stopped` directly after a call that is answered ok
stopped_after_call : (s : List Line) → IsLogHistory s (Stopped ∷ Called 1 a1 Fine ∷ []) → ⊥
stopped_after_call s ([], is) = absurd cc
stopped_after_call s (Arms n a k i ∷ xs, (before, came, may, is)) = absurd cc
stopped_after_call s (Opens n a found ∷ xs, (before, came, may, is)) = by (is_up_by before) found is
  where
    by : (up : Bool) (r : Result ℕ LogRefusal) → Stopped ∷ Called 1 a1 Fine ∷ [] ≡ restarted n a up r before → ⊥
    by true (Ok m) e = absurd cc
    by false (Ok m) e = absurd cc
    by true (Err (Refusal.NotALog p)) e = absurd cc
    by true (Err r) e = absurd cc
    by false (Err r) e = absurd cc
stopped_after_call s (Halts ∷ xs, (before, came, may, is)) =
    let called : before ≡ Called 1 a1 Fine ∷ [] = cc in restarts_nothing s (xs, subst (λ (h : List Entry). CameInTurn s xs h) called came)

-- the line of a restart, which then never opens the log
pub restart_never_opens : (k from to : ℕ) → IsRunOnThreads (says a1 Restart ∷ []) k from to ((Log, Called 1 a1 Fine) ∷ (Log, Stopped) ∷ []) → ⊥
restart_never_opens k from to run = stopped_after_call (says a1 Restart ∷ []) run.history.at_log

-- and that of a stop, which stops the log in place of arming
pub stop_stops_at_once : (k from to : ℕ) → IsRunOnThreads (says a1 (Stop 1 Lose) ∷ []) k from to ((Log, Called 1 a1 Fine) ∷ (Log, Stopped) ∷ []) → ⊥
stop_stops_at_once k from to run = stopped_after_call (says a1 (Stop 1 Lose) ∷ []) run.history.at_log

-- lines 1 and 2 stand before `par`, and line 4 comes between them
abbrev before_par : List Line
before_par = says a1 (Begin t1 Default) ∷ says a2 (Status t1) ∷ says a1 Par ∷ says a1 (Status t1) ∷ []

pub par_overtaken : (k from to : ℕ) → IsRunOnThreads before_par k from to ((Transaction t1, Called 1 a1 Fine) ∷ (Transaction t1, Called 4 a1 Fine) ∷ (Transaction t1, Called 2 a2 Fine) ∷ []) → ⊥
par_overtaken k from to run = let false_is : false ≡ true = run.first t1 in cc

-- False entries at a log, each refused: no events in turn write them. They stand newest first.
use Rattle.std.proofs.Common.{◌≡◌, ℕ, Bool, true, false, List, [], ◌∷◌, refl}
use Rattle.std.specs.Prelude.{Result, Ok, Err}
use Rattle.dtx_values.specs.declared.Image.TheVariants.{Lose}
use Rattle.dtx_values.specs.declared.entry.Answer.TheVariants.{Fine, NoSuch}
use Rattle.dtx_values.specs.declared.entry.Entry.{Entry}
use Rattle.dtx_values.specs.declared.entry.Entry.TheVariants.{Called, LogFull, LogWord, Stopped}
use Rattle.dtx_values.specs.declared.entry.LogNote.TheVariants.{Armed, Opened}
use Rattle.dtx_values.specs.declared.number.ActorNo.{ActorNo}
use Rattle.dtx_values.specs.declared.script.Line.{Line}
use Rattle.coordinator_log.specs.declared.refusal.LogRefusal.{LogRefusal}
use Rattle.coordinator_log.specs.declared.refusal.LogRefusal.TheVariants as Refusal
use Rattle.dtx_model.specs.AtLog.{is_up_by}
use Rattle.dtx_model.specs.Traces.{Placed, placed}
use Rattle.dtx_model.proofs.Cast.{a1, t1}
use Rattle.turn_parts.specs.LogEvents.{Arms, CameInTurn, Halts, IsLogHistory, LogEvent, Opens}
use Rattle.turn_parts.specs.Reopening.{restarted}
use Rattle.turn_parts.specs.Runs.{IsNeverFull}

-- what a restart writes ends with its call, or with `stopped` or `opened`
restart_written : (es : List Entry) (n : ℕ) (a : ActorNo) (up : Bool) (found : Result ℕ LogRefusal) (past : List Entry) → es ≡ restarted n a up found past → ((es ≡ Called 1 a1 NoSuch ∷ []) → ⊥) × ((es ≡ Called 1 a1 Fine ∷ []) → ⊥) × ((es ≡ LogWord (Opened 7) ∷ []) → ⊥)
restart_written es n a true (Ok m) past is = (λ e. absurd cc, λ e. absurd cc, λ e. absurd cc)
restart_written es n a false (Ok m) past is = (λ e. absurd cc, λ e. absurd cc, λ e. absurd cc)
restart_written es n a true (Err (Refusal.NotALog p)) past is = (λ e. absurd cc, λ e. absurd cc, λ e. absurd cc)
restart_written es n a false (Err (Refusal.NotALog p)) past is = (λ e. absurd cc, λ e. absurd cc, λ e. absurd cc)
restart_written es n a true (Err r) past is = (λ e. absurd cc, λ e. absurd cc, λ e. absurd cc)
restart_written es n a false (Err r) past is = (λ e. absurd cc, λ e. absurd cc, λ e. absurd cc)

-- a restart that is answered `nosuch`
pub answered_nosuch : (s : List Line) → IsLogHistory s (Called 1 a1 NoSuch ∷ []) → ⊥
answered_nosuch s ([], is) = absurd cc
answered_nosuch s (Arms n a k i ∷ xs, (before, came, may, is)) = absurd cc
answered_nosuch s (Opens n a found ∷ xs, (before, came, may, is)) = (restart_written (Called 1 a1 NoSuch ∷ []) n a (is_up_by before) found before is).0 refl
answered_nosuch s (Halts ∷ xs, (before, came, may, is)) = absurd cc

-- one that is answered ok, and neither stops the log nor opens it
pub restarts_nothing : (s : List Line) → IsLogHistory s (Called 1 a1 Fine ∷ []) → ⊥
restarts_nothing s ([], is) = absurd cc
restarts_nothing s (Arms n a k i ∷ xs, (before, came, may, is)) = absurd cc
restarts_nothing s (Opens n a found ∷ xs, (before, came, may, is)) = (restart_written (Called 1 a1 Fine ∷ []) n a (is_up_by before) found before is).1 refl
restarts_nothing s (Halts ∷ xs, (before, came, may, is)) = absurd cc

-- an opening that is no restart's
pub opened_by_none : (s : List Line) → IsLogHistory s (LogWord (Opened 7) ∷ []) → ⊥
opened_by_none s ([], is) = absurd cc
opened_by_none s (Arms n a k i ∷ xs, (before, came, may, is)) = absurd cc
opened_by_none s (Opens n a found ∷ xs, (before, came, may, is)) = (restart_written (LogWord (Opened 7) ∷ []) n a (is_up_by before) found before is).2 refl
opened_by_none s (Halts ∷ xs, (before, came, may, is)) = absurd cc

-- a stop that no line armed
pub armed_by_none : (s : List Line) → IsLogHistory s (LogWord (Armed 1 Lose) ∷ []) → ⊥
armed_by_none s ([], is) = absurd cc
armed_by_none s (Arms n a k i ∷ xs, (before, came, may, is)) = absurd cc
armed_by_none s (Opens n a found ∷ xs, (before, came, may, is)) = by (is_up_by before) found is
  where
    by : (up : Bool) (r : Result ℕ LogRefusal) → LogWord (Armed 1 Lose) ∷ [] ≡ restarted n a up r before → ⊥
    by true (Ok m) e = absurd cc
    by false (Ok m) e = absurd cc
    by true (Err r) e = absurd cc
    by false (Err r) e = absurd cc
armed_by_none s (Halts ∷ xs, (before, came, may, is)) = absurd cc

-- an append found the log full
pub found_full : IsNeverFull (placed t1 (LogFull ∷ [])) → ⊥
found_full never = let full : true ≡ false = never t1 in cc

-- What comes to the log comes by the lines of the script.
use Rattle.std.proofs.Common.{◌≡◌, ℕ, List, [], ◌∷◌, Some, refl, ap, ◌∙◌}
use Rattle.dtx_values.specs.declared.Image.{Image}
use Rattle.dtx_values.specs.declared.entry.Entry.{Entry}
use Rattle.dtx_values.specs.declared.number.ActorNo.{ActorNo}
use Rattle.dtx_values.specs.declared.script.Body.{Body}
use Rattle.dtx_values.specs.declared.script.Body.TheVariants.{Restart, Stop}
use Rattle.dtx_values.specs.declared.script.Line.{Line}
use Rattle.dtx_model.specs.Words.{kth}
use Rattle.dtx_values.proofs.SameNumbers.{same_actor}
use Rattle.script_calls.specs.Due.{log_call}
use Rattle.script_calls.specs.Prefix.{IsLogPrefix}
use Rattle.script_calls.specs.Rows.{next_in, row_at}
use Rattle.script_calls.specs.SeenRow.{SeenRow}
use Rattle.script_calls.specs.declared.calls.LogCall.{LogCall}
use Rattle.script_calls.specs.declared.calls.LogCall.TheVariants.{Restart as RestartCall, Stop as StopCall}
use Rattle.script_calls.proofs.AtLog.{next_log_given}
use Rattle.turn_parts.specs.LogEvents.{IsLogHistory, LogEvent, MayCome, after_event}

-- At the start nothing came,
pub none_came : (s : List Line) → IsLogHistory s []
none_came s = ([], refl)

-- and then one event after the other.
pub one_more : (s : List Line) (x : LogEvent) (before : List Entry) → IsLogHistory s before → MayCome s x before → IsLogHistory s (after_event x before)
one_more s x before h may = (x ∷ h.0, (before, h.1, may, refl))

abbrev line_of : ActorNo → Body → Line
line_of a b = record { actor = a; body = b }

line_is : (l : Line) (a : ActorNo) (b : Body) → l.actor.value ≡ a.value → l.body ≡ b → l ≡ line_of a b
line_is l a b actor body = ap (λ (u : ActorNo). line_of u l.body) (same_actor l.actor a actor) ∙ ap (λ (c : Body). line_of a c) body

-- the line that gives the log a stop, and the one that gives it a restart
stop_body : (b : Body) (k : ℕ) (i : Image) → log_call b ≡ Some (StopCall k i) → b ≡ Stop k i
stop_body (Stop j h) k i is = cc
stop_body Restart k i is = absurd cc
stop_body b k i is = absurd cc

restart_body : (b : Body) → log_call b ≡ Some RestartCall → b ≡ Restart
restart_body Restart is = refl
restart_body (Stop j h) is = absurd cc
restart_body b is = absurd cc

-- Where an actor's next call at the log is a stop, its line is that `stop`, by the actor,
pub stop_line : (s : List Line) (rows : List (SeenRow LogCall)) (h : List Entry) (a : ActorNo) (n k : ℕ) (i : Image) → IsLogPrefix s rows h → next_in (row_at a rows) ≡ Some (record { line = n; call = StopCall k i })
    → kth s n ≡ Some (record { actor = a; body = Stop k i })
stop_line s rows h a n k i order next =
    let due = next_log_given s rows h a (record { line = n; call = StopCall k i }) order next in
    due.stands ∙ ap (λ (l : Line). Some l) (line_is due.line a (Stop k i) due.by_actor (stop_body due.line.body k i due.gives))

-- and where it is a restart, a `restart`.
pub restart_line : (s : List Line) (rows : List (SeenRow LogCall)) (h : List Entry) (a : ActorNo) (n : ℕ) → IsLogPrefix s rows h → next_in (row_at a rows) ≡ Some (record { line = n; call = RestartCall })
    → kth s n ≡ Some (record { actor = a; body = Restart })
restart_line s rows h a n order next =
    let due = next_log_given s rows h a (record { line = n; call = RestartCall }) order next in
    due.stands ∙ ap (λ (l : Line). Some l) (line_is due.line a Restart due.by_actor (restart_body due.line.body due.gives))

-- What may stand at the log: the entries of what came there, in turn.
use Rattle.std.specs.Prelude.{ℕ, ◌≡◌, true, List, [], ◌∷◌, Result, Some}
use Rattle.dtx_values.specs.declared.Image.{Image}
use Rattle.dtx_values.specs.declared.entry.Entry.{Entry}
use Rattle.dtx_values.specs.declared.entry.Entry.TheVariants.{Stopped}
use Rattle.dtx_values.specs.declared.number.ActorNo.{ActorNo}
use Rattle.dtx_values.specs.declared.script.Body.TheVariants.{Restart, Stop}
use Rattle.dtx_values.specs.declared.script.Line.{Line}
use Rattle.dtx_model.specs.AtLog.{is_up_by}
use Rattle.dtx_model.specs.Words.{kth}
use Rattle.coordinator_log.specs.declared.refusal.LogRefusal.{LogRefusal}
use Rattle.turn_parts.specs.Reopening.{restarted, stop_armed}

-- what comes to the log: a line arms a stop there, or opens the log again, where `found` says how many records it then has or why it wasn't opened; or an append or a free stops it
pub data LogEvent : Type 0 where
  Arms : (line : ℕ) → (actor : ActorNo) → (place : ℕ) → (image : Image) → LogEvent
  Opens : (line : ℕ) → (actor : ActorNo) → (found : Result ℕ LogRefusal) → LogEvent
  Halts : LogEvent

-- the entries at the log, newest first, with those of one event more: the call of a `stop` line, and `armed`; the call of a `restart` line with its answer, `stopped` where the log was up, and `opened` where it was opened; or `stopped`
abbrev pub after_event : LogEvent → List Entry → List Entry
after_event (Arms n a k i) past = stop_armed n a k i past
after_event (Opens n a found) past = restarted n a (is_up_by past) found past
after_event Halts past = Stopped ∷ past

-- line n of the script is that of the event, by its actor and with its words; and an append or a free stops a log that is up
abbrev pub MayCome : List Line → LogEvent → List Entry → Type 0
MayCome s (Arms n a k i) past = kth s n ≡ Some (record { actor = a; body = Stop k i })
MayCome s (Opens n a found) past = kth s n ≡ Some (record { actor = a; body = Restart })
MayCome s Halts past = is_up_by past ≡ true

-- these events, newest first, came in turn, and the entries are theirs
abbrev pub CameInTurn : List Line → List LogEvent → List Entry → Type 0
CameInTurn s [] past = past ≡ []
CameInTurn s (x ∷ xs) past = (before : List Entry) × CameInTurn s xs before × MayCome s x before × (past ≡ after_event x before)

-- the entries at the log, newest first, are those of what came there in turn
abbrev pub IsLogHistory : List Line → List Entry → Type 0
IsLogHistory s past = (xs : List LogEvent) × CameInTurn s xs past

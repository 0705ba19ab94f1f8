-- The calls of each actor that were entered at a place are the first ones of those that its lines give it there.
use Rattle.std.specs.Prelude.{ℕ, ◌≡◌, ◌==◌, List, map, take, Option, Some, None, if◌then◌else◌}
use Rattle.dtx_values.specs.declared.call.Call.{Call}
use Rattle.dtx_values.specs.declared.entry.Entry.{Entry}
use Rattle.dtx_values.specs.declared.entry.Entry.TheVariants.{Called}
use Rattle.dtx_values.specs.declared.number.ActorNo.{ActorNo}
use Rattle.dtx_values.specs.declared.script.Line.{Line}
use Rattle.dtx_model.specs.declared.waiting.EnteredCall.{EnteredCall}
use Rattle.dtx_model.specs.Words.{all_of, past_of}
use Rattle.script_calls.specs.declared.calls.LogCall.{LogCall}
use Rattle.script_calls.specs.declared.rows.Due.{Due}
use Rattle.script_calls.specs.Due.{calls_at, log_calls_at}
use Rattle.script_calls.specs.Rows.{row_at}
use Rattle.script_calls.specs.SeenRow.{SeenRow}

-- the call, where it is actor a's
abbrev pub own_call : ℕ → EnteredCall → Option (Due Call)
own_call a k = if a == k.actor.value then Some (record { line = k.line; call = k.call }) else None

-- the calls by actor a among those that were entered, newest first
abbrev pub entered_by : ℕ → List EnteredCall → List (Due Call)
entered_by a ks = all_of (own_call a) ks

-- the calls of each actor among those that were entered at transaction t, newest first, are the first ones of its calls there, in order
abbrev pub IsInOrder : List Line → ℕ → List EnteredCall → Type 0
IsInOrder s t ks = (a : ActorNo) → (n : ℕ) × (entered_by a.value ks ≡ past_of (take n (calls_at s a.value t)))

-- the rows are those of transaction t, and of each actor's calls so many were entered as its row says: the first ones, in order
pub record IsPrefix (s : List Line) (t : ℕ) (rows : List (SeenRow Call)) (ks : List EnteredCall) : Type 0 where
  pub calls : (a : ActorNo) → (row_at a rows).calls ≡ calls_at s a.value t
  pub entered : (a : ActorNo) → entered_by a.value ks ≡ past_of (take (row_at a rows).entered (row_at a rows).calls)

-- the line of the call that the entry is, where it is actor a's
abbrev pub own_line : ℕ → Entry → Option ℕ
own_line a (Called n b x) = if a == b.value then Some n else None
own_line a _ = None

-- the lines of actor a's calls in a history, newest first
abbrev pub lines_by : ℕ → List Entry → List ℕ
lines_by a h = all_of (own_line a) h

-- the rows are those of the log, and of each actor's calls the history of the log has so many as its row says: the first ones, in order
pub record IsLogPrefix (s : List Line) (rows : List (SeenRow LogCall)) (h : List Entry) : Type 0 where
  pub calls : (a : ActorNo) → (row_at a rows).calls ≡ log_calls_at s a.value
  pub entered : (a : ActorNo) → lines_by a.value h ≡ past_of (map (λ d. d.line) (take (row_at a rows).entered (row_at a rows).calls))

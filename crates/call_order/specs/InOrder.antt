-- The order of calls, where each actor of a script has a thread of its own.
use Rattle.std.specs.Prelude.{ℕ, ◌≡◌, ◌==◌, Bool, ◌&&◌, List, filter, map}
use Rattle.dtx_values.specs.declared.number.ActorNo.{ActorNo}
use Rattle.dtx_values.specs.declared.script.Line.{Line}
use Rattle.dtx_values.specs.declared.trace.Place.{Place}
use Rattle.dtx_model.specs.Words.{past_of}
use Rattle.dtx_model.specs.History.{same_place}
use Rattle.dtx_model.specs.Replay.{due_calls}
use Rattle.dtx_model.specs.Traces.{Placed, calls}
use Rattle.script_calls.specs.declared.rows.Due.{Due}

-- the call is by actor a, at place p
abbrev pub is_by : Place → ℕ → Place × ℕ × ActorNo → Bool
is_by p a c = same_place p c.0 && (a == c.2.value)

-- The order on threads: at each place each actor's calls are exactly those that its lines make there, each once, in order of lines. The trace stands oldest first.
abbrev pub AreInActorOrder : List Line → List Placed → Type 0
AreInActorOrder s T = (p : Place) (a : ActorNo) → filter (is_by p a.value) (calls (past_of T)) ≡ filter (is_by p a.value) (due_calls s (past_of s))

-- the lines of calls that stand in order of lines, the last line first
abbrev pub lines_of : {C : Type 0} → List (Due C) → List ℕ
lines_of ds = past_of (map (λ d. d.line) ds)

-- Replays of a script, stops and restarts of the log included: what its lines did in order, and then rounds.
use Rattle.std.specs.Prelude.{ℕ, zero, suc, ◌≡◌, ◌≤◌, ◌<◌, ◌==◌, Bool, true, false, ◌&&◌, not, List, [], ◌∷◌, ◌++◌, length, map, filter, Option, Some, None, nat_le, nat_lt, ◌||◌, if◌then◌else◌}
use Rattle.dtx_values.specs.declared.call.Call.{Call}
use Rattle.dtx_values.specs.declared.call.Call.TheVariants.{Await, Do}
use Rattle.dtx_values.specs.declared.entry.Answer.{Answer}
use Rattle.dtx_values.specs.declared.entry.Answer.TheVariants.{Fine, Fault, NotALog}
use Rattle.dtx_values.specs.declared.entry.Entry.{Entry}
use Rattle.dtx_values.specs.declared.entry.Entry.TheVariants.{Called, LogWord, Restarted, Stopped}
use Rattle.dtx_values.specs.declared.entry.LogNote.TheVariants.{Armed, Opened}
use Rattle.dtx_values.specs.declared.number.ActorNo.{ActorNo}
use Rattle.dtx_values.specs.declared.number.TxNo.{TxNo}
use Rattle.dtx_values.specs.declared.scope.OpenScope.{OpenScope}
use Rattle.dtx_values.specs.declared.script.Body.{Body}
use Rattle.dtx_values.specs.declared.script.Body.TheVariants.{Stop, Restart}
use Rattle.dtx_values.specs.declared.script.Line.{Line}
use Rattle.dtx_values.specs.declared.trace.Place.{Place}
use Rattle.dtx_values.specs.declared.trace.Place.TheVariants.{Context, Transaction, Log}
use Rattle.dtx_model.specs.Words.{has, kth, onto, past_of}
use Rattle.dtx_model.specs.Calls.{call_of}
use Rattle.dtx_model.specs.Contexts.{calls_by, scope_answer, scope_block, scope_calls, scopes_of}
use Rattle.dtx_model.specs.Traces.{Placed, history, placed, noted}
use Rattle.dtx_model.specs.World.{World}
use Rattle.dtx_model.specs.Steps.{StoppedNow, StoppedBefore, Step, Calls, Coordinates, StepName, block_at, pending}
use Rattle.dtx_model.specs.Caused.{IsNamed, is_begin_sent, Settled, world_of}
use Rattle.dtx_model.specs.AtLog.{hit, is_log_up, known}

abbrev pub world_at : List Line → TxNo → List Placed → World
world_at s t T = world_of s (history t.value T)

abbrev pub block_in : List Line → TxNo → Step → List Placed → List Entry
block_in s t m T = block_at t.value (world_at s t T) m

-- an entry at each of these transactions
abbrev pub put_at : (TxNo → Entry) → List TxNo → List Placed → List Placed
put_at f ts T = onto T (map (λ t. (Transaction t, f t)) ts)

abbrev pub at_the_log : Entry → List Placed → List Placed
at_the_log x T = (Log, x) ∷ T

abbrev pub others : TxNo → List TxNo → List TxNo
others t us = filter (λ u. not (t.value == u.value)) us

-- the log stopped under the act of t: `stopped` at the log, at t, and at each other transaction that is hit, by number
abbrev pub after_stop : TxNo → List Placed → List Placed
after_stop t T = put_at (λ u. Stopped) (others t (hit T)) (onto (at_the_log Stopped T) (placed t (Stopped ∷ [])))

-- where BEGIN is sent while the log is stopped, `stopped` follows in that transaction alone
abbrev pub stop_if : Bool → TxNo → List Placed → List Placed
stop_if true t T = onto T (placed t (Stopped ∷ []))
stop_if false t T = T

-- the trace with a step of t after it
abbrev pub after_turn : List Line → TxNo → Step → List Placed → List Placed
after_turn s t (Coordinates StoppedNow) T = after_stop t T
after_turn s t m T = stop_if (has is_begin_sent (block_in s t m T) && not (is_log_up T)) t (onto T (placed t (block_in s t m T)))

-- in replay no append finds the log stopped
abbrev pub is_in_replay : Step → Bool
is_in_replay (Coordinates StoppedBefore) = false
is_in_replay _ = true

-- so many steps of t were done after this trace, each the k-th that was pending
abbrev pub StepsRan : List Line → TxNo → ℕ → ℕ → List Placed → List Placed → Type 0
StepsRan s t k zero start T = T ≡ start
StepsRan s t k (suc m) start T =
    (past : List Placed) × StepsRan s t k m start past × (n : StepName) × (step : Step) × (kth (pending (world_at s t past)) k ≡ Some n) × IsNamed (world_at s t past) n step
    × (is_in_replay step ≡ true) × (T ≡ after_turn s t step past)

-- a `do` that says n times the k-th: so many steps were done, at most n, and fewer only where fewer than k are pending then
pub record HasDoneAt (s : List Line) (t : TxNo) (k n m : ℕ) (start before : List Placed) : Type 0 where
  pub ran : StepsRan s t k m start before
  pub most : m ≤ n
  pub stopped : m < n → kth (pending (world_at s t before)) k ≡ None

-- an `await`: the first pending step was done until none was left
pub record HasSettled (s : List Line) (t : TxNo) (m : ℕ) (start before : List Placed) : Type 0 where
  pub ran : StepsRan s t 1 m start before
  pub settled : Settled s (history t.value before)

-- what a line does by its own words: its call, after the steps of a `do` or an `await`
abbrev pub CallRan : List Line → ActorNo → ℕ → Option (TxNo × Call) → List Placed → List Placed → Type 0
CallRan s a i (Some (t, Do u k n)) start T = (m : ℕ) × (before : List Placed) × HasDoneAt s t k n m start before × (T ≡ after_turn s t (Calls i a (Do u k n) m) before)
CallRan s a i (Some (t, Await u)) start T = (m : ℕ) × (before : List Placed) × HasSettled s t m start before × (T ≡ after_turn s t (Calls i a (Await u) 0) before)
CallRan s a i (Some (t, c)) start T = T ≡ after_turn s t (Calls i a c 0) start
CallRan s a i None start T = T ≡ start

-- the trace with these calls of line n after it, each a step of its transaction
abbrev pub after_calls : List Line → ℕ → ActorNo → List (TxNo × Call) → List Placed → List Placed
after_calls s n a [] T = T
after_calls s n a (c ∷ cs) T = after_calls s n a cs (after_turn s c.0 (Calls n a c.1 0) T)

abbrev pub after_scope : List Line → ℕ → Line → List OpenScope → List Placed → List Placed
after_scope s n l xs T = after_calls s n l.actor (scope_calls l.body xs) (onto T (noted l.actor (scope_block n l.actor l.body xs)))

-- a restart of a running log stops it first
abbrev pub stopped_by_restart : Bool → List Placed → List Placed
stopped_by_restart true T = put_at (λ u. Stopped) (hit T) (at_the_log Stopped T)
stopped_by_restart false T = T

-- the call of a restart with its answer, and the stop that it brings
abbrev pub after_halt : ℕ → ActorNo → Answer → List Placed → List Placed
after_halt n a x T = stopped_by_restart (is_log_up T) (at_the_log (Called n a x) T)

-- the log was opened again with so many records: what is found is said in each transaction of which the coordinator knows
abbrev pub after_opening : (ℕ → Bool) → ℕ → List Placed → List Placed
after_opening found m T = put_at (λ t. Restarted (found t.value)) (known T) (at_the_log (LogWord (Opened m)) T)

pub data Reopening : Type 0 where
  Opens : (found : ℕ → Bool) → (records : ℕ) → Reopening
  Faults : Reopening
  Differs : (place : ℕ) → Reopening

abbrev pub after_restart : ℕ → ActorNo → Reopening → List Placed → List Placed
after_restart n a (Opens found m) T = after_opening found m (after_halt n a Fine T)
after_restart n a Faults T = after_halt n a Fault T
after_restart n a (Differs p) T = after_halt n a (NotALog p) T

-- what a line does after the lines before it: a stop is armed, the log is opened again, or else its calls
abbrev pub LineRan : List Line → List Line → Line → List Placed → List Placed → Type 0
LineRan s before l start T = by l.body
  where
    by : Body → Type 0
    by (Stop n i) = T ≡ at_the_log (LogWord (Armed n i)) (at_the_log (Called (suc (length before)) l.actor Fine) start)
    by Restart = (x : Reopening) × (T ≡ after_restart (suc (length before)) l.actor x start)
    by _ = CallRan s l.actor (suc (length before)) (call_of s l.body) (after_scope s (suc (length before)) l (scopes_of l.actor.value before) start) T

-- the lines, newest first, were run in order, and this is their trace
abbrev pub LinesRan : List Line → List Line → List Placed → Type 0
LinesRan s [] T = T ≡ []
LinesRan s (l ∷ before) T = (past : List Placed) × LinesRan s before past × LineRan s before l past T

-- going round from u, v comes before t
abbrev pub is_passed : ℕ → ℕ → ℕ → Bool
is_passed u t v = if nat_le u t then nat_le u v && nat_lt v t else nat_le u v || nat_lt v t

-- at the end it is t's turn after u's, with this step: one of the first name that is pending at t, and going round from u nothing is pending before
pub record IsTurn (s : List Line) (T : List Placed) (u : ℕ) (t : TxNo) (m : Step) : Type 0 where
  pub name : StepName
  pub others : List StepName
  pub first : pending (world_at s t T) ≡ name ∷ others
  pub named : IsNamed (world_at s t T) name m
  pub in_replay : is_in_replay m ≡ true
  pub passed : (v : TxNo) → is_passed u t.value v.value ≡ true → Settled s (history v.value T)

abbrev pub last_turn : List (TxNo × Step) → ℕ
last_turn [] = 1
last_turn (x ∷ xs) = x.0.value

-- after the lines t1, t2 and so on were settled in rounds; these are the turns, newest first
abbrev pub RoundsRan : List Line → List Placed → List (TxNo × Step) → List Placed → Type 0
RoundsRan s start [] T = T ≡ start
RoundsRan s start (x ∷ xs) T = (past : List Placed) × RoundsRan s start xs past × IsTurn s past (last_turn xs) x.0 x.1 × (T ≡ after_turn s x.0 x.1 past)

-- the trace of a replay: what the lines did in order, and then the rounds
pub record IsReplayed (s : List Line) (T : List Placed) : Type 0 where
  pub by_lines : List Placed
  pub lines : LinesRan s (past_of s) by_lines
  pub turns : List (TxNo × Step)
  pub rounds : RoundsRan s by_lines turns T

-- the calls of a trace: the place, the line and the actor of each
abbrev pub at_its_context : ℕ → ActorNo → Option Answer → List (Place × ℕ × ActorNo)
at_its_context n a (Some x) = (Context a, n, a) ∷ []
at_its_context n a None = []

-- `stop` and `restart` have their call at the log
abbrev pub at_log_line : ℕ → ActorNo → Body → List (Place × ℕ × ActorNo)
at_log_line n a (Stop k i) = (Log, n, a) ∷ []
at_log_line n a Restart = (Log, n, a) ∷ []
at_log_line n a _ = []

-- a line's calls at their places: at its actor's context, where it is a scope line, at the log, and at the transactions that it calls
abbrev pub due_by_line : List Line → List Line → Line → List (Place × ℕ × ActorNo)
due_by_line s before l =
    at_its_context (suc (length before)) l.actor (scope_answer l.body (scopes_of l.actor.value before)) ++ at_log_line (suc (length before)) l.actor l.body
    ++ map (λ c. (Transaction c.0, suc (length before), l.actor)) (calls_by s before l)

-- the calls that the lines are to write, newest first
abbrev pub due_calls : List Line → List Line → List (Place × ℕ × ActorNo)
due_calls s [] = []
due_calls s (l ∷ before) = onto (due_calls s before) (due_by_line s before l)

-- A whole script's replay, computed: its lines in order, with what they do at the contexts, at the log and at the transactions, and then rounds. What a
-- restart finds is given; whether an append or a free is stopped follows from the stop that is armed.
use Rattle.std.proofs.Common.{◌≡◌, ℕ, zero, suc, Bool, true, false, ◌&&◌, List, [], ◌∷◌, length, Option, Some, None}
use Rattle.dtx_values.specs.declared.call.Call.{Call}
use Rattle.dtx_values.specs.declared.call.Call.TheVariants.{Await, Do}
use Rattle.dtx_values.specs.declared.entry.Answer.TheVariants.{Fine}
use Rattle.dtx_values.specs.declared.entry.Entry.TheVariants.{Called, LogWord}
use Rattle.dtx_values.specs.declared.entry.LogNote.TheVariants.{Armed}
use Rattle.dtx_values.specs.declared.number.ActorNo.{ActorNo}
use Rattle.dtx_values.specs.declared.number.TxNo.{TxNo}
use Rattle.dtx_values.specs.declared.script.Body.{Body}
use Rattle.dtx_values.specs.declared.script.Body.TheVariants.{Stop, Restart}
use Rattle.dtx_values.specs.declared.script.Line.{Line}
use Rattle.dtx_model.specs.Words.{always, each, kth, past_of}
use Rattle.dtx_model.specs.Outcome.{agree, is_empty, justified}
use Rattle.dtx_model.specs.Promotes.{promotes}
use Rattle.dtx_model.specs.Learned.{are_answered, is_decided_there, is_learned}
use Rattle.dtx_model.specs.Caused.{is_as_planned, plans_of}
use Rattle.dtx_model.specs.History.{nobody}
use Rattle.dtx_model.specs.Calls.{call_of}
use Rattle.dtx_model.specs.Contexts.{scopes_of}
use Rattle.dtx_model.specs.Traces.{Placed, calls, history}
use Rattle.dtx_model.specs.Replies.{due_of}
use Rattle.dtx_model.specs.World.{half}
use Rattle.dtx_model.specs.Steps.{LogAnswer, Done, StoppedNow, Step, Calls, Replies, Acts, Coordinates, Delivers, StepName, ReplyOf, LocalAct, CoordinatorAct, Delivery, pending}
use Rattle.dtx_model.specs.AtLog.{act_calls, at_log, faults, follow_log, is_met, open_right, stop_right, transactions}
use Rattle.dtx_model.specs.Replay.{Opens, after_restart, after_scope, after_turn, at_the_log, due_calls, world_at}
use Rattle.dtx_model.proofs.Crossing.{may_cross}
use Rattle.dtx_model.proofs.Playing.{fuel, reply_to}

abbrev pub stopped_if : Bool → LogAnswer
stopped_if true = StoppedNow
stopped_if false = Done

-- the pending step of this name
abbrev pub step_named : List Line → TxNo → List Placed → StepName → Step
step_named s t T (ReplyOf e) = Replies e (reply_to (world_at s t T) e (due_of (half (world_at s t T)).seen e.value))
step_named s t T LocalAct = Acts
step_named s t T CoordinatorAct = Coordinates (stopped_if (is_met T (act_calls t.value T)))
step_named s t T (Delivery c d) = Delivers c d

abbrev pub turn : List Line → TxNo → List Placed → StepName → List Placed
turn s t T n = after_turn s t (step_named s t T n) T

-- the first pending step of t, until there is none, or so often
abbrev pub settle : ℕ → List Line → TxNo → List Placed → List Placed
settle zero s t T = T
settle (suc n) s t T = elim (pending (world_at s t T)) as (λ x. List Placed) [ [] ↦ T | m ∷ ms ↦ settle n s t (turn s t T m) ]

-- the k-th pending step of t at most so often, with the number of steps done
abbrev pub does : ℕ → List Line → TxNo → ℕ → ℕ → List Placed → ℕ × List Placed
does zero s t k m T = (m, T)
does (suc n) s t k m T = elim (kth (pending (world_at s t T)) k) as (λ x. ℕ × List Placed) [ None ↦ (m, T) | Some x ↦ does n s t k (suc m) (turn s t T x) ]

abbrev pub called_after : List Line → ℕ → ActorNo → TxNo → Call → ℕ × List Placed → List Placed
called_after s n a t c x = after_turn s t (Calls n a c x.0) x.1

-- a call: `do` does its steps first, and `await` all that are pending
abbrev pub by_call : List Line → ℕ → ActorNo → Option (TxNo × Call) → List Placed → List Placed
by_call s n a (Some (t, Do u k m)) T = called_after s n a t (Do u k m) (does m s t k 0 T)
by_call s n a (Some (t, Await u)) T = called_after s n a t (Await u) (0, settle fuel s t T)
by_call s n a (Some (t, c)) T = called_after s n a t c (0, T)
by_call s n a None T = T

-- what a restart finds: of which transactions, by number, and how many records
abbrev pub Found : Type 0
Found = (ℕ → Bool) × ℕ

-- a trace, with what the restarts to come find
abbrev pub Going : Type 0
Going = List Placed × List Found

abbrev pub reopen : ℕ → ActorNo → List Placed → List Found → Going
reopen n a T [] = (T, [])
reopen n a T (f ∷ fs) = (after_restart n a (Opens f.0 f.1) T, fs)

abbrev pub by_line : List Line → List Line → ℕ → Line → Body → Going → Going
by_line s before n l (Stop k i) g = (at_the_log (LogWord (Armed k i)) (at_the_log (Called n l.actor Fine) g.0), g.1)
by_line s before n l Restart g = reopen n l.actor g.0 g.1
by_line s before n l b g = (by_call s n l.actor (call_of s b) (after_scope s n l (scopes_of l.actor.value before) g.0), g.1)

abbrev pub lines : List Line → List Line → List Line → Going → Going
lines s before [] g = g
lines s before (l ∷ ls) g = lines s (l ∷ before) ls (by_line s before (suc (length before)) l l.body g)

abbrev pub settle_each : List Line → List TxNo → List Placed → List Placed
settle_each s [] T = T
settle_each s (t ∷ ts) T = settle_each s ts (settle fuel s t T)

abbrev pub is_settled : List Line → List Placed → Bool
is_settled s T = each (λ t. is_empty (pending (world_at s t T))) (transactions T)

-- round by round, until nothing is pending; nothing where so many rounds don't reach that
abbrev pub rounds : ℕ → List Line → List Placed → Option (List Placed)
rounds zero s T = None
rounds (suc n) s T = elim (is_settled s T) as (λ b. Option (List Placed)) [ true ↦ Some T | false ↦ rounds n s (settle_each s (transactions T) T) ]

-- the trace of the script's replay, newest entry first
abbrev pub replayed : List Line → List Found → Option (List Placed)
replayed s fs = rounds 5 s (lines s [] s ([], fs)).0

-- what is said of the log: each stop has its cause, no fault is needed, each opening finds what its step says, and the transactions follow
abbrev pub keeps_log : List Placed → Bool
keeps_log T = stop_right [] T && open_right [] T && follow_log T && is_zero (faults (at_log T))
  where
    is_zero : ℕ → Bool
    is_zero zero = true
    is_zero (suc n) = false

-- and of a transaction
abbrev pub keeps_laws : List Line → List Placed → TxNo → Bool
keeps_laws s T t =
    promotes s t.value (history t.value T) && always (is_as_planned (plans_of s) nobody) (history t.value T) && always may_cross (history t.value T) && justified (history t.value T)
    && agree (history t.value T) && always is_learned (history t.value T) && are_answered (is_decided_there (history t.value T)) [] (history t.value T)

-- The script's replay makes this trace, oldest entry first, where its restarts find this. It keeps what is said of the log and of each transaction, and each line has
-- its calls at their places, in order.
abbrev pub IsWorkedTrace : List Line → List Found → List Placed → Type 0
IsWorkedTrace s found T =
    (replayed s found ≡ Some (past_of T)) × (keeps_log (past_of T) ≡ true) × (each (keeps_laws s (past_of T)) (transactions (past_of T)) ≡ true) × (calls (past_of T) ≡ due_calls s (past_of s))
